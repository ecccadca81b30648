-- What contracts see of an index of a plan's units.
use Rattle.std.specs.Prelude.{◌≡◌, ℕ, ◌<◌, List, [], length, slice_index_or, Some}
use Rattle.std.specs.List.{slice_get}
use Rattle.j39_network.specs.declared.plan.Plan.{Plan}
use Rattle.j39_network.specs.declared.plan.unit_plan.UnitPlan.{UnitPlan}
use Rattle.j39_schedule.specs.inside.Checksums.{checksum}

-- the list has this number
abbrev pub Has : List ℕ → ℕ → Type 0
Has list n = (k : ℕ) × (k < length list) × (slice_index_or list k 0 ≡ n)

-- each unit of the plan stands in the list of its label's checksum
abbrev pub IsIndexOf : Plan → List (List ℕ) → Type 0
IsIndexOf plan lists =
    (u : ℕ) (unit : UnitPlan) → slice_get plan.units.items u ≡ Some unit → Has (slice_index_or lists (checksum unit.label.bytes) []) u
