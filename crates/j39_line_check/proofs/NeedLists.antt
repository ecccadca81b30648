-- Possible variants that take full alternatives alone are looked at.
use Rattle.std.proofs.Common.{◌≡◌, ℕ, zero, suc, ◌+◌, List, [], ◌∷◌, Some, Vec, true, inl, inr, is_some, map, refl, ap, ◌∙◌, arith}
use Rattle.std.specs.declared.alloc.Global.{Global}
use Rattle.std.specs.List.{slice_get}
use Rattle.std.proofs.lemmas.Option.{none-some, same_Some}
use Rattle.j39_load.specs.LineLists.{lines_of_each}
use Rattle.j39_network.specs.declared.plan.need_plan.NeedPlan.{NeedPlan}
use Rattle.j39_variants.specs.declared.line.Alternative.{Alternative}
use Rattle.j39_variants.specs.declared.line.ProductLine.{ProductLine}
use Rattle.j39_line_findings.specs.FullVariants.{alternatives_of, full_of_need}
use Rattle.j39_line_findings.specs.declared.full.FullAlternatives.{FullAlternatives}
use Rattle.j39_line_check.specs.FullSets.{full_sets, need_sets}
use Rattle.j39_line_check.specs.LookedAtLaws.{FullVariantsAreLookedAt, NeedsHaveTheirLists}
use Rattle.j39_line_check.specs.SetVariants.{IsSetAmong, takes_alone}
use Rattle.j39_line_check.proofs.OfSets.{of_set}
use Rattle.j39_line_check.proofs.Sets.{and_so, taken_one}

-- ---- lists by their places

line_at : {X Y : Type 0} (one : ℕ → X → Y) (k n : ℕ) (xs : List X) (i : ℕ) (x : X) → slice_get xs i ≡ Some x → n ≡ k + i
    → slice_get (lines_of_each (λ m y. one m y ∷ []) k xs) i ≡ Some (one n x)
unfolding lines_of_each
line_at one k n [] i x at same = absurd (none-some x at)
line_at one k n (y ∷ xs) zero x at same =
    let here : k ≡ n = omega (arith, same) in
    ap Some (ap (one k) (same_Some y x at) ∙ ap (λ m. one m x) here)
line_at one k n (y ∷ xs) (suc i) x at same = line_at one (k + 1) n xs i x at (omega (arith, same))

-- the value at a place, of what stands for it
value_of : {V Y : Type 0} (f : V → Y) (xs : List V) (i : ℕ) (y : Y) → slice_get (map f xs) i ≡ Some y → (v : V) × (slice_get xs i ≡ Some v) × (f v ≡ y)
value_of f [] i y at = absurd (none-some y at)
value_of f (x ∷ xs) zero y at = (x, refl, same_Some (f x) y at)
value_of f (x ∷ xs) (suc i) y at = value_of f xs i y at

pub lists_of_needs : NeedsHaveTheirLists
lists_of_needs line full are d need at =
    let one : ℕ → NeedPlan → List Alternative = full_of_need line (alternatives_of line) in
    let there : slice_get (map (λ list. list.items) full.of_needs.items) d ≡ Some (one d need) =
    ap (λ (xs : List (List Alternative)). slice_get xs d) are.has_needs ∙ line_at one 0 d line.plan.needs.items d need at (omega arith) in
    let found = value_of (λ list. list.items) full.of_needs.items d (one d need) there in
    record { list = found.0; at = found.1; is_full = found.2 }

-- ---- sets

among_values : (lists : List (Vec Alternative Global)) (d : ℕ) (list : Vec Alternative Global) → slice_get lists d ≡ Some list
    → IsSetAmong (map (λ l. l.items) lists) list.items
among_values [] d list at = absurd (none-some list at)
among_values (l ∷ lists) zero list at = inl (ap (λ (x : Vec Alternative Global). x.items) (same_Some l list at))
among_values (l ∷ lists) (suc d) list at = inr (among_values lists d list at)

among_needs : (line : ProductLine) (full : FullAlternatives) (d : ℕ) (list : Vec Alternative Global) → is_some line.plan.timing ≡ true
    → slice_get full.of_needs.items d ≡ Some list → IsSetAmong (need_sets line full) list.items
among_needs line full d list timed at = rw timed (among_values full.of_needs.items d list at)

pub all_looked_at : FullVariantsAreLookedAt
all_looked_at line full variants are = record {
  of_line = λ v is each.
      let alone : takes_alone full.all.items v ≡ true = (of_set line.choices.items full.all.items v is.is_variant).alone each in
      are.complete v (record {
        is_variant = is.is_variant;
        possible = is.possible;
        is_full = taken_one (full_sets line full) full.all.items v (inl refl) alone;
      });
  of_need = λ timed v is d list at each.
      let alone : takes_alone list.items v ≡ true = (of_set line.choices.items list.items v is.is_variant).alone each in (
        are.complete v (record {
          is_variant = is.is_variant;
          possible = is.possible;
          is_full = taken_one (full_sets line full) list.items v (inr (among_needs line full d list timed at)) alone;
        }),
        rw at (and_so (is_some line.plan.timing) (takes_alone list.items v) timed alone),
      );
}
