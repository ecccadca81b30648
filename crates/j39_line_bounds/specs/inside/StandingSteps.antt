-- What is reported of units in some variants, one after the other.
use Rattle.std.specs.Prelude.{ℕ, List, Bool, true, false, if◌then◌else◌, slice_index_or, Option, Some, None}
use Rattle.std.specs.List.{slice_get}
use Rattle.std.specs.Option.{option_and_then}
use Rattle.j39_network.specs.declared.plan.unit_plan.UnitPlan.{UnitPlan}
use Rattle.j39_variants.specs.declared.line.ProductLine.{ProductLine}
use Rattle.j39_line_findings.specs.MissedNeeds.{is_unit_there}
use Rattle.j39_line_bounds.specs.declared.standing.LineStanding.{LineStanding}
use Rattle.j39_line_bounds.specs.declared.standing.LineStanding.TheVariants.{NoVariant, Stays, MayMove}

-- whether a unit stays in a variant in whose plan these do; none where it isn't there
abbrev pub stays_in_variant : ProductLine → List ℕ → (UnitPlan → Bool) → ℕ → Option Bool
stays_in_variant line variant stays u =
    option_and_then (λ unit. if is_unit_there line variant u then Some (stays unit) else None) (slice_get line.plan.units.items u)

-- what is reported of it, with this variant
abbrev pub with_variant : LineStanding → Option Bool → LineStanding
with_variant NoVariant None = NoVariant
with_variant Stays None = Stays
with_variant NoVariant (Some true) = Stays
with_variant Stays (Some true) = Stays
with_variant NoVariant (Some false) = MayMove
with_variant Stays (Some false) = MayMove
with_variant MayMove here = MayMove

abbrev pub standing_at : List LineStanding → ℕ → LineStanding
standing_at standings u = slice_index_or standings u NoVariant

abbrev pub standing_with : ProductLine → List ℕ → (UnitPlan → Bool) → List LineStanding → ℕ → LineStanding
standing_with line variant stays so_far u = with_variant (standing_at so_far u) (stays_in_variant line variant stays u)
