-- What a plan reports of the boxes that its units are. The identity number of a NAME, its bits 0 to 20, is each box's own serial number
-- (SAE J1939-81, NAME fields), and a unit may be of any.
use Rattle.std.specs.Prelude.{◌≡◌, ℕ, ◌/◌, ◌^◌, ◌⊎◌, Bool, true, ◌&&◌, ◌||◌, ◌==◌}
use Rattle.j39_search.specs.ListPlaces.{PairAt}
use Rattle.j39_network.specs.declared.plan.Plan.{Plan}
use Rattle.j39_network.specs.declared.plan.unit_plan.UnitPlan.{UnitPlan}

-- the kind of a NAME: all of it but the identity number
abbrev pub kind_of_name : ℕ → ℕ
kind_of_name name = name / 2 ^ 21

-- a box of this NAME may be the unit: it is of the unit's kind and has its number, or the unit is of any
abbrev pub MayHaveName : UnitPlan → ℕ → Type 0
MayHaveName unit name = (kind_of_name unit.name ≡ kind_of_name name) × ((unit.name ≡ name) ⊎ (unit.any_identity ≡ true))

-- two units may be one: they are of one kind, and have one number, or one of the two is of any
abbrev pub MayBeOne : UnitPlan → UnitPlan → Type 0
MayBeOne u v = (kind_of_name u.name ≡ kind_of_name v.name) × ((u.name ≡ v.name) ⊎ ((u.any_identity ≡ true) ⊎ (v.any_identity ≡ true)))

-- so it is with the units at these places, the first below the second
abbrev pub MayBeOneAt : Plan → ℕ → ℕ → Type 0
MayBeOneAt plan i j = PairAt MayBeOne plan.units.items i j

-- no two units of the plan may be one
abbrev pub AreDistinctUnits : Plan → Type 0
AreDistinctUnits plan = (i j : ℕ) → ¬ MayBeOneAt plan i j

-- ---- as a test

abbrev pub may_be_one : UnitPlan → UnitPlan → Bool
may_be_one u v = kind_of_name u.name == kind_of_name v.name && (u.name == v.name || (u.any_identity || v.any_identity))
