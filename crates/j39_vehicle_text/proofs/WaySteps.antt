-- The forwards of a trace, one after another, and their text.
use Rattle.std.proofs.Common.{◌≡◌, ℕ, zero, suc, ◌+◌, ◌-◌, ◌<◌, List, [], ◌∷◌, ◌++◌, codes, length, drop, get_or, Some, None, refl, sym, ap, ◌∙◌, append_assoc}
use Rattle.std.proofs.Common.{arith}
use Rattle.std.specs.Option.{option_map_or}
use Rattle.std.proofs.Math.Seq.{drop-length}
use Rattle.std.proofs.lemmas.List.{append-nil, at_drop_more}
use Rattle.j39_vehicle.specs.declared.vehicle.Vehicle.{Vehicle}
use Rattle.j39_vehicle_findings.specs.declared.point.Point.{Point}
use Rattle.j39_vehicle_findings.specs.Traces.{goes_on, next_forward}
use Rattle.j39_vehicle_findings.proofs.Tracing.{one_more}
use Rattle.j39_text.specs.Texts.{place_field}
use Rattle.j39_vehicle_text.specs.NeedLines.{back_text, way_by}

-- where no forward leads on there are no more
no_further : (v : Vehicle) (steps : ℕ) (p : Point) → next_forward v p ≡ None → way_by v steps p ≡ []
unfolding way_by
no_further v zero p none = refl
no_further v (suc steps) p none = ap (λ m. option_map_or (λ n. n ∷ option_map_or (way_by v steps) (goes_on v p n) []) m []) none

step_of : (v : Vehicle) (steps : ℕ) (p : Point) (n : ℕ) → next_forward v p ≡ Some n
    → way_by v (suc steps) p ≡ n ∷ option_map_or (way_by v steps) (goes_on v p n) []
unfolding way_by
step_of v steps p n some = ap (λ m. option_map_or (λ k. k ∷ option_map_or (way_by v steps) (goes_on v p k) []) m []) some

no_steps : (v : Vehicle) (p : Point) → way_by v zero p ≡ []
unfolding way_by
no_steps v p = refl

none_before : (all i : ℕ) → i ≡ all → all - i ≡ zero
none_before all i over = omega (arith, over)

-- what was found so far, and what is left of the trace at this point, are the whole
module _ (v : Vehicle) (all i : ℕ) (p : Point) (back whole : List ℕ) (so : back ++ way_by v (all - i) p ≡ whole) where
  -- no forward leads on
  pub ends_here : next_forward v p ≡ None → back ≡ whole
  ends_here none = sym (ap (λ (ns : List ℕ). back ++ ns) (no_further v (all - i) p none) ∙ append-nil back) ∙ so

  -- there were as many steps as there are forwards
  pub ends_behind_all : i ≡ all → back ≡ whole
  ends_behind_all over =
      sym (ap (λ k. back ++ way_by v k p) (none_before all i over) ∙ ap (λ (ns : List ℕ). back ++ ns) (no_steps v p) ∙ append-nil back) ∙ so

  module _ (n : ℕ) (longer : List ℕ) (less : i < all) (some : next_forward v p ≡ Some n) (push : longer ≡ back ++ n ∷ []) where
    left_here : way_by v (all - i) p ≡ n ∷ option_map_or (way_by v (all - (i + 1))) (goes_on v p n) []
    left_here = ap (λ k. way_by v k p) (one_more all i less) ∙ step_of v (all - (i + 1)) p n some

    -- one leads on, to where the trace goes on
    pub goes_further : (q : Point) → goes_on v p n ≡ Some q → longer ++ way_by v (all - (i + 1)) q ≡ whole
    goes_further q on =
        let rest : List ℕ = way_by v (all - (i + 1)) q in
        let left : way_by v (all - i) p ≡ n ∷ rest = left_here ∙ ap (λ r. n ∷ option_map_or (way_by v (all - (i + 1))) r []) on in
        ap (λ (ns : List ℕ). ns ++ rest) push ∙ append_assoc back (n ∷ []) rest ∙ sym (ap (λ (ns : List ℕ). back ++ ns) left) ∙ so

    -- or the trace breaks off behind it
    pub breaks_off : goes_on v p n ≡ None → longer ≡ whole
    breaks_off none =
        let left : way_by v (all - i) p ≡ n ∷ [] = left_here ∙ ap (λ r. n ∷ option_map_or (way_by v (all - (i + 1))) r []) none in
        push ∙ sym (ap (λ (ns : List ℕ). back ++ ns) left) ∙ so

none_back : back_text [] ≡ []
unfolding back_text
none_back = refl

one_back : (n : ℕ) (ns : List ℕ) → back_text (n ∷ ns) ≡ back_text ns ++ place_field (codes " ") n
unfolding back_text
one_back n ns = refl

-- nothing is written yet
pub none_written : (text back : List ℕ) → text ≡ text ++ back_text (drop (length back) back)
none_written text back = sym (ap (λ (ns : List ℕ). text ++ back_text ns) (drop-length back) ∙ ap (λ (ns : List ℕ). text ++ ns) none_back ∙ append-nil text)

-- the next one, which stands before those that are written
pub one_written : (first text new back : List ℕ) (k : ℕ) → k < length back → text ≡ first ++ back_text (drop (k + 1) back)
    → new ≡ text ++ place_field (codes " ") (get_or back k 0) → new ≡ first ++ back_text (drop k back)
one_written first text new back k less so put =
    let rest : List ℕ = drop (k + 1) back in
    let word : List ℕ = place_field (codes " ") (get_or back k 0) in
    let both : back_text (drop k back) ≡ back_text rest ++ word = at_drop_more back_text back k 0 less ∙ one_back (get_or back k 0) rest in
    put ∙ ap (λ (t : List ℕ). t ++ word) so ∙ append_assoc first (back_text rest) word ∙ ap (λ (t : List ℕ). first ++ t) (sym both)
