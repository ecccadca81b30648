-- What the claim steps need of a plan: what each unit claims as.
use Rattle.std.specs.Prelude.{ℕ, true, List, map, slice_index_or}
use Rattle.std.specs.FinSet.{FinSet, empty}
use Rattle.std.specs.Ordering.{nat_cmp}
use Rattle.j39_claim.specs.ClaimRule.{PlannedUnit}
use Rattle.j39_network.specs.declared.plan.Plan.{Plan}
use Rattle.j39_network.specs.declared.plan.unit_plan.UnitPlan.{UnitPlan}

-- a unit claims as its NAME, if it claims, prefers its planned address, and chooses none that is kept free
abbrev pub planned_unit : FinSet nat_cmp → UnitPlan → PlannedUnit
planned_unit kept p = record { name = p.name; preferred = p.address; kept = kept; claims = p.claims }

-- the units in their order in the plan
abbrev pub units_of : Plan → List PlannedUnit
units_of plan = map (planned_unit plan.keep_free) plan.units.items

-- the unit at a place
abbrev pub unit_at : List PlannedUnit → ℕ → PlannedUnit
unit_at units u = slice_index_or units u (record { name = 0; preferred = 0; kept = empty; claims = true })
