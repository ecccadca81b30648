-- The sets of full alternatives of a line, and how many variants they have.
use Rattle.std.specs.Prelude.{◌≡◌, ℕ, List, [], ◌∷◌, true, is_some, if◌then◌else◌, map, sum}
use Rattle.j39_variants.specs.Variants.{IsVariant, is_possible}
use Rattle.j39_variants.specs.declared.line.Alternative.{Alternative}
use Rattle.j39_variants.specs.declared.line.ProductLine.{ProductLine}
use Rattle.j39_line_findings.specs.AllVariants.{IsOneOf}
use Rattle.j39_line_findings.specs.declared.full.FullAlternatives.{FullAlternatives}
use Rattle.j39_line_check.specs.SetVariants.{AreEarliestFirst, AreWidest, is_of_some_set, variants_of_set, with_each_choice}

-- those for each need; ages are reported of where something is known of the bus
abbrev pub need_sets : ProductLine → FullAlternatives → List (List Alternative)
need_sets line full = if is_some line.plan.timing then map (λ list. list.items) full.of_needs.items else []

abbrev pub full_sets : ProductLine → FullAlternatives → List (List Alternative)
full_sets line full = full.all.items ∷ need_sets line full

-- the sum, over the sets that count, of how many variants each has
pub record IsNumberOfVariants (line : ProductLine) (full : FullAlternatives) (n : ℕ) : Type 0 where
  pub kept : List (List Alternative)
  pub are_widest : AreWidest (with_each_choice line.choices.items (full_sets line full)) kept
  pub is_sum : n ≡ sum (map (variants_of_set line.choices.items) kept)

-- it is looked at: it is possible, and takes alternatives of one of the sets alone
pub record IsFullSomehow (line : ProductLine) (full : FullAlternatives) (variant : List ℕ) : Type 0 where
  pub is_variant : IsVariant line.choices.items variant
  pub possible : is_possible line.nevers.items variant ≡ true
  pub is_full : is_of_some_set (full_sets line full) variant ≡ true

-- these are looked at, each once, in order
pub record AreLookedAt (line : ProductLine) (full : FullAlternatives) (variants : List (List ℕ)) : Type 0 where
  pub complete : (v : List ℕ) → IsFullSomehow line full v → IsOneOf variants v
  pub sound : (v : List ℕ) → IsOneOf variants v → IsFullSomehow line full v
  pub in_order : AreEarliestFirst variants
