-- Findings are added one after the other.
use Rattle.std.proofs.Common.{◌≡◌, ℕ, suc, ◌+◌, ◌<◌, List, [], ◌∷◌, ◌++◌, append_assoc, get_or, inl, inr, length, map, take, refl, sym, ap, subst, ◌∙◌, arith}
use Rattle.std.specs.List.{Contains}
use Rattle.std.proofs.Math.Seq.{take-suc}
use Rattle.std.proofs.lemmas.List.{map-append}
use Rattle.std.proofs.lemmas.List.Elements.{Contains-append_cases, Contains-append_left, Contains-append_right}
use Rattle.j39_line_findings.specs.InFile.{rank_of}
use Rattle.j39_line_check.proofs.ReportedInOrder.{cases_in, first_in, none_in}
use Rattle.j39_line_check.specs.declared.answer.ReportedFinding.{ReportedFinding}
use Rattle.j39_line_check.specs.inside.AddedFindings.{AreAdded, Pair, pair_reported}
use Rattle.j39_line_check.specs.inside.Inserted.{IsReportedWith}

pub none_added : AreAdded [] []
none_added = record { in_order = tt; sound = λ t at. absurd (none_in t at); complete = λ p at. absurd (none_in p at) }

-- one more
pub added_more : (all : List Pair) (old reported : List ReportedFinding) (new : ReportedFinding) (p : Pair) → p ≡ pair_reported new → AreAdded all old
    → IsReportedWith old new reported
    → AreAdded (all ++ p ∷ []) reported
added_more all old reported new p is are with_it = record {
  in_order = with_it.in_order are.in_order;
  sound = λ t at. elim (with_it.sound t at) [
    | inl before ↦ Contains-append_left all (p ∷ []) (pair_reported t) (are.sound t before)
    | inr new_one ↦
        subst (λ q. Contains (all ++ p ∷ []) q) (is ∙ ap pair_reported (sym new_one))
        (Contains-append_right all (p ∷ []) p (first_in p []))
  ];
  complete = λ q at. elim (Contains-append_cases all (p ∷ []) q at) [
    | inl before ↦ let t = are.complete q before in (t.0, with_it.kept t.0 t.1, t.2)
    | inr here ↦ elim (cases_in p q [] here) [
      | inl same ↦
          let t = with_it.is_reported are.in_order in
          (t.0, t.1, t.2 ∙ ap (λ (r : Pair). rank_of r.0) (sym is ∙ sym same))
      | inr none ↦ absurd (none_in q none)
    ]
  ];
}

-- of a list, up to its next place
pub added_at : {X : Type 0} (pair : X → Pair) (before : List Pair) (k : ℕ) (xs : List X) (x : X) (old reported : List ReportedFinding) (new : ReportedFinding)
    → k < length xs → x ≡ get_or xs k x → pair x ≡ pair_reported new → AreAdded (before ++ map pair (take k xs)) old → IsReportedWith old new reported
    → AreAdded (before ++ map pair (take (k + 1) xs)) reported
added_at {X} pair before k xs x old reported new less is same are with_it =
    let next : k + 1 ≡ suc k = omega arith in
    let one : take (k + 1) xs ≡ take k xs ++ x ∷ [] =
    ap (λ (n : ℕ). take n xs) next ∙ take-suc xs k x less ∙ ap (λ (y : X). take k xs ++ y ∷ []) (sym is) in
    let all : before ++ map pair (take (k + 1) xs) ≡ (before ++ map pair (take k xs)) ++ pair x ∷ [] =
    ap (λ (ys : List X). before ++ map pair ys) one ∙ ap (λ (ps : List Pair). before ++ ps) (map-append pair (take k xs) (x ∷ []))
    ∙ sym (append_assoc before (map pair (take k xs)) (pair x ∷ [])) in
    subst (λ ps. AreAdded ps reported) (sym all) (added_more (before ++ map pair (take k xs)) old reported new (pair x) same are with_it)
