-- Whose a NAME is, where no two units of a plan may be one.
use Rattle.std.specs.Prelude.{◌≡◌, ℕ, Some}
use Rattle.std.specs.List.{slice_get}
use Rattle.j39_network.specs.Kinds.{AreDistinctUnits, MayHaveName}
use Rattle.j39_network.specs.declared.plan.Plan.{Plan}
use Rattle.j39_network.specs.declared.plan.unit_plan.UnitPlan.{UnitPlan}
use Rattle.j39_follow.specs.Who.{unit_of_name}

-- a NAME that a box of a unit may have is of this unit: its own number, or any where the unit is of any
abbrev pub NamesAreOfTheirUnits : Type 0
NamesAreOfTheirUnits = (plan : Plan) (u : ℕ) (unit : UnitPlan) (name : ℕ) → AreDistinctUnits plan → slice_get plan.units.items u ≡ Some unit
    → MayHaveName unit name → unit_of_name plan name ≡ Some u
