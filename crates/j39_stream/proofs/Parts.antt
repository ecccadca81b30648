-- What stands written where a text was cut, and what was reported of the front of a text.
use Rattle.std.proofs.Common.{◌≡◌, ℕ, ◌+◌, ◌≤◌, ◌⊎◌, ◌==◌, List, [], ◌∷◌, ◌++◌, length, take, Option}
use Rattle.std.proofs.Common.{Some, None, inl, inr, refl, sym, ap, ◌∙◌, subst, arith, append_assoc}
use Rattle.std.specs.Io.KnownBytes.{Appends, Consumes}
use Rattle.std.proofs.KnownBytes.{Appends-trans}
use Rattle.std.proofs.Math.Seq.{take-append-add}
use Rattle.std.proofs.lemmas.List.{append-nil, take-append-le, take_all}
use Rattle.std.proofs.lemmas.Bool.{cases_lt, cases_Bool}
use Rattle.j39_id.specs.Lines.{Line, Pending, answer_to, at_start, behind, behind_all, is_line_feed, line_limit, lines, yields, yielded, yielded_at_end}
use Rattle.j39_id.specs.declared.cut.Cut.TheVariants as cuts
use Rattle.j39_id.proofs.CutLines.{yields_lines, yielded-append, behind_all-append}
use Rattle.j39_stream.specs.Streams.{AppendsPart}

-- ---- a part of the text

-- some first bytes of a text are no more than it has
at_most : (n : ℕ) (xs : List ℕ) → (m : ℕ) × (m ≤ length xs) × (take n xs ≡ take m xs)
at_most n xs =
    elim (cases_lt n (length xs)) [
      | inl below ↦ (n, omega arith, refl)
      | inr past ↦ (length xs, omega arith, take_all n xs past ∙ sym (take_all (length xs) xs (omega arith)))
    ]

-- what was written, and some first bytes of what was to be written next
pub part_after : (a b c : Option (List ℕ)) (written next tail text : List ℕ) → text ≡ written ++ (next ++ tail) → Appends a b written
    → AppendsPart b c next → AppendsPart a c text
part_after a b c written next tail text ends first second =
    let n = at_most second.0 next in
    let part : Appends b c (take n.0 next) = subst (Appends b c) n.2 second.1 in
    let cut : take (length written + n.0) text ≡ written ++ take n.0 next =
    ap (λ (t : List ℕ). take (length written + n.0) t) ends ∙ take-append-add written (next ++ tail) n.0
    ∙ ap (λ (t : List ℕ). written ++ t) (take-append-le n.0 next tail n.1) in
    (length written + n.0, subst (Appends a c) (sym cut) (Appends-trans a b c written (take n.0 next) first part))

-- behind an answer a cutter yields nothing at the end
none_behind : (p : Pending) (b : ℕ) → (answer_to p b ≡ cuts.More) ⊎ (yielded_at_end (behind p b) ≡ [])
none_behind p b =
    elim (cases_Bool p.reported_long) [
      | inl long ↦ inl (rw long refl)
      | inr short ↦
          elim (cases_Bool (is_line_feed b)) [
            | inl feed ↦ inr (rw feed refl)
            | inr other ↦
                elim (cases_Bool (length p.held == line_limit)) [
                  | inl full ↦ inr (rw (short, other, full) refl)
                  | inr room ↦ inl (rw (short, other, room) refl)
                ]
          ]
    ]

-- some first bytes of a text have the lines that are reported of it
abbrev pub HasFront : List ℕ → Type 0
HasFront seen = (front : List ℕ) × (back : List ℕ) × (seen ≡ front ++ back) × (lines front ≡ yielded at_start seen)

front_more : (seen : List ℕ) (b : ℕ) → HasFront seen → HasFront (seen ++ b ∷ [])
front_more seen b before =
    let p = behind_all at_start seen in
    let next : yielded at_start (seen ++ b ∷ []) ≡ yielded at_start seen ++ (yields (answer_to p b) p.held ++ []) = yielded-append at_start seen (b ∷ []) in
    elim (none_behind p b) [
      | inl more ↦
          let none : yields (answer_to p b) p.held ++ [] ≡ [] = rw more refl in (
            before.0,
            before.1 ++ b ∷ [],
            ap (λ (t : List ℕ). t ++ b ∷ []) before.2 ∙ append_assoc before.0 before.1 (b ∷ []),
            before.3 ∙ sym (next ∙ ap (λ (u : List Line). yielded at_start seen ++ u) none ∙ append-nil (yielded at_start seen)),
          )
      | inr none ↦
          let end : yielded_at_end (behind_all at_start (seen ++ b ∷ [])) ≡ [] = ap yielded_at_end (behind_all-append at_start seen (b ∷ [])) ∙ none in (
            seen ++ b ∷ [],
            [],
            sym (append-nil (seen ++ b ∷ [])),
            sym (yields_lines (seen ++ b ∷ [])) ∙ ap (λ (u : List Line). yielded at_start (seen ++ b ∷ []) ++ u) end ∙ append-nil
                (yielded at_start (seen ++ b ∷ [])),
          )
    ]

fronts : (seen more : List ℕ) → HasFront seen → HasFront (seen ++ more)
fronts seen [] before = subst HasFront (sym (append-nil seen)) before
fronts seen (b ∷ more) before = subst HasFront (append_assoc seen (b ∷ []) more) (fronts (seen ++ b ∷ []) more (front_more seen b before))

pub front_of : (seen : List ℕ) → HasFront seen
front_of seen = fronts [] seen ([], [], refl, sym (yields_lines []))

-- nothing is taken of nothing
pub none_taken : (a : Option (List ℕ)) → Appends a a []
none_taken None = tt
none_taken (Some xs) = sym (append-nil xs)

-- nothing is read of what is left
pub none_read : (a : Option (List ℕ)) → Consumes a a []
none_read None = tt
none_read (Some xs) = refl
