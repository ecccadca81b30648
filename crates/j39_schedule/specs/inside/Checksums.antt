-- Checksums of labels, and the units that have a label.
use Rattle.std.specs.Prelude.{ℕ, ◌+◌, ◌*◌, ◌%◌, Bool, false, List, [], ◌∷◌}
use Rattle.std.specs.List.{slice_get}
use Rattle.std.specs.Option.{option_map_or}
use Rattle.std.specs.Str.{bytes_eq}
use Rattle.j39_network.specs.declared.plan.Plan.{Plan}
use Rattle.j39_network.specs.declared.plan.unit_plan.UnitPlan.{UnitPlan}

-- the checksum of what begins so and goes on with these bytes
unfoldable pub checksum_from : ℕ → List ℕ → ℕ
checksum_from sum [] = sum
checksum_from sum (b ∷ bs) = checksum_from ((sum * 31 % 256 + b) % 256) bs

-- any function of the label would do; this one distinguishes most labels of a plan
abbrev pub checksum : List ℕ → ℕ
checksum = checksum_from 0

-- there is a unit at this place, and it has the label
abbrev pub is_unit_named : Plan → ℕ → List ℕ → Bool
is_unit_named plan place label =
    option_map_or (λ (unit : UnitPlan). bytes_eq unit.label.bytes label) (slice_get plan.units.items place) false
