-- A variant that covers a possible one is possible.
use Rattle.std.specs.declared.alloc.Global.{Global}
use Rattle.std.proofs.Common.{◌≡◌, ℕ, true, not, List, [], ◌∷◌, Vec, refl, sym, ◌∙◌, ap, inl, inr, arith}
use Rattle.std.proofs.lemmas.Bool.{and_from, and_parts, cases_Bool, false≢true}
use Rattle.std.proofs.lemmas.Option.{same_Some, slice_get_within}
use Rattle.j39_variants.specs.declared.line.Alternative.{Alternative}
use Rattle.j39_variants.specs.declared.line.ProductLine.{ProductLine}
use Rattle.j39_variants.specs.VariantPlans.{flags}
use Rattle.j39_variants.specs.Variants.{is_in, is_possible, IsVariant}
use Rattle.j39_line_findings.specs.FullVariants.{alternative_at, do_keep}
use Rattle.j39_part_laws.proofs.Places.{value_at}
use Rattle.j39_line_laws.specs.Covering.{IsCoveredBy}
use Rattle.j39_line_laws.proofs.VariantBoxes.{AreFewer, fewer, keep_nevers, KeepAll}

-- no box that has the second variant lacks the first
no_more : (nevers : List (Vec Alternative Global)) (v w : List ℕ) → AreFewer (flags w nevers) (flags v nevers) → is_possible nevers v ≡ true
    → is_possible nevers w ≡ true
no_more [] v w less possible = refl
no_more (never ∷ nevers) v w less possible =
    let (first, rest) = and_parts (not (is_in v never.items)) (is_possible nevers v) possible in
    and_from (not (is_in w never.items)) (is_possible nevers w) (elim (cases_Bool (is_in w never.items)) [
      | inr outside ↦ ap not outside
      | inl inside ↦ absurd (false≢true (sym (ap not (less.0 inside)) ∙ first))
    ]) (no_more nevers v w less.1 rest)

pub possible_too : (line : ProductLine) (v w : List ℕ) → IsVariant line.choices.items v → IsVariant line.choices.items w → IsCoveredBy line v w
    → is_possible line.nevers.items v ≡ true → is_possible line.nevers.items w ≡ true
possible_too line v w one other covered =
    no_more line.nevers.items v w (fewer line.nevers.items w v keeps)
  where
    keeps : KeepAll line.nevers.items w v
    keeps c q at_q =
        let below = slice_get_within w c q at_q in
        let long = one.of_each in
        let also = other.of_each in
        let (p, at_p) = value_at v c (omega (arith, below, long, also)) in
        let (r, at_r, covers) = covered c p at_p in
        let same : r ≡ q = same_Some r q (sym at_r ∙ at_q) in (
          p,
          at_p,
          ap (λ k. do_keep line.nevers.items (alternative_at c k) (alternative_at c p)) (sym same) ∙ keep_nevers line (alternative_at c p)
              (alternative_at c r) covers,
        )
