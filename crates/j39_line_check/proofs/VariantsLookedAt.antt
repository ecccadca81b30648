-- The variants that are looked at are those that are full somehow.
use Rattle.std.proofs.Common.{◌≡◌, ℕ, List, true, filter}
use Rattle.j39_variants.specs.Variants.{IsVariant, is_possible}
use Rattle.j39_variants.specs.declared.line.Alternative.{Alternative}
use Rattle.j39_variants.specs.declared.line.Choice.{Choice}
use Rattle.j39_variants.specs.declared.line.ProductLine.{ProductLine}
use Rattle.j39_line_findings.specs.declared.full.FullAlternatives.{FullAlternatives}
use Rattle.j39_line_check.specs.FullSets.{AreLookedAt, full_sets}
use Rattle.j39_line_check.specs.SetVariants.{AreVariantsOfSets, AreWidest, has_each_choice, is_of_some_set, with_each_choice}
use Rattle.j39_line_check.proofs.Enumerated.{kept_in_order}
use Rattle.j39_line_check.proofs.Sets.{has_each, one_taken, taken_one, takes_wider}
use Rattle.j39_line_check.proofs.Filters.{kept_one, one_kept}

-- the sets that count have all variants of the sets
pub any_widest : (choices : List Choice) (sets kept : List (List Alternative)) (v : List ℕ) → AreWidest (with_each_choice choices sets) kept
    → IsVariant choices v → is_of_some_set sets v ≡ true → is_of_some_set kept v ≡ true
any_widest choices sets kept v widest is any =
    let one = one_taken sets v any in
    let each = has_each choices one.0 v is.of_each one.2 in
    let wide = widest.wide one.0 (kept_one (has_each_choice choices) sets one.0 one.1 each) in
    taken_one kept wide.0 v wide.1 (takes_wider one.0 wide.0 0 v wide.2 one.2)

pub any_kept : (choices : List Choice) (sets kept : List (List Alternative)) (v : List ℕ) → AreWidest (with_each_choice choices sets) kept
    → is_of_some_set kept v ≡ true → is_of_some_set sets v ≡ true
any_kept choices sets kept v widest any =
    let one = one_taken kept v any in
    taken_one sets one.0 v (one_kept (has_each_choice choices) sets one.0 (widest.sound one.0 one.1)).0 one.2

pub are_looked_at : (line : ProductLine) (full : FullAlternatives) (kept : List (List Alternative)) (vs : List (List ℕ))
    → AreVariantsOfSets line.choices.items kept vs → AreWidest (with_each_choice line.choices.items (full_sets line full)) kept
    → AreLookedAt line full (filter (is_possible line.nevers.items) vs)
are_looked_at line full kept vs are widest = record {
  complete = λ v is.
      kept_one (is_possible line.nevers.items) vs v
      (are.complete v is.is_variant (any_widest line.choices.items (full_sets line full) kept v widest is.is_variant is.is_full)) is.possible;
  sound = λ v at.
      let one = one_kept (is_possible line.nevers.items) vs v at in
      record {
        is_variant = are.are_variants v one.0;
        possible = one.1;
        is_full = any_kept line.choices.items (full_sets line full) kept v widest (are.are_of_sets v one.0);
      };
  in_order = kept_in_order (is_possible line.nevers.items) vs are.in_order;
}
