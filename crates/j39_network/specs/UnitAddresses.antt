-- Which addresses units of a plan need (SAE J1939-81).
use Rattle.std.specs.Prelude.{◌≡◌, ◌⊎◌, true, false}
use Rattle.std.specs.FinSet.{FinSet}
use Rattle.std.specs.Ordering.{nat_cmp}
use Rattle.j39_claim.specs.AddressSets.{IsFreeIn}
use Rattle.j39_id.specs.Name.{is_arbitrary}
use Rattle.j39_network.specs.declared.plan.unit_plan.UnitPlan.{UnitPlan}

-- a unit that never moves to another address
abbrev pub IsFixed : UnitPlan → Type 0
IsFixed unit = is_arbitrary unit.name ≡ false

-- a unit that needs an address of the pool that isn't kept free: an arbitrary one may have to move to any of them, a fixed one may
-- have its own there
abbrev pub NeedsPoolAddress : FinSet nat_cmp → UnitPlan → Type 0
NeedsPoolAddress kept unit = (is_arbitrary unit.name ≡ true) ⊎ IsFreeIn kept unit.address
