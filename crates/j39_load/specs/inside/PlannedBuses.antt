-- What contracts say of a planned bus.
use Rattle.std.specs.Prelude.{ℕ, Bool, List}
use Rattle.j39_network.specs.declared.plan.timing.Timing.{Timing}
use Rattle.j39_network.specs.declared.plan.unit_plan.UnitPlan.{UnitPlan}
use Rattle.j39_load.specs.declared.frames.extreme.Extreme.{Extreme}
use Rattle.j39_load.specs.declared.frames.planned_bus.PlannedBus.{PlannedBus}
use Rattle.j39_load.specs.Loads.{of_unit}
use Rattle.j39_findings.specs.Standing.{stays_of}
use Rattle.j39_load.specs.inside.Extremes.{extreme_address}

abbrev pub units_in : PlannedBus → List UnitPlan
units_in bus = bus.plan.now.units.items

-- whether a unit stays
abbrev pub stays_in : PlannedBus → UnitPlan → Bool
stays_in bus = stays_of bus.standing.now

-- what is defined by the timing of a bus, its units, and who of them stays
abbrev pub on_bus : {X : Type 0} → (Timing → List UnitPlan → (UnitPlan → Bool) → X) → PlannedBus → X
on_bus defined bus = defined bus.timing (units_in bus) (stays_in bus)

-- the addresses of the units at this end
abbrev pub addresses_at : Extreme → PlannedBus → ℕ → ℕ
addresses_at extreme bus = of_unit (units_in bus) (extreme_address extreme (stays_in bus))
