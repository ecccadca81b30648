use Rattle.std.proofs.Common.{◌≡◌, ℕ, ◌<◌, [], length, get_or, Some}
use Rattle.std.specs.List.{slice_get}
use Rattle.j39_network.specs.declared.plan.unit_plan.UnitPlan.{UnitPlan}
use Rattle.j39_schedule.specs.inside.UnitIndexes.{Has}
use Rattle.j39_schedule.specs.inside.Checksums.{checksum}
use Rattle.j39_schedule.proofs.unit_index.UnitIndex.new.Given as goal

abbrev pub invariant-loop : goal.invariant-loop
invariant-loop l = length l.lists.items ≡ l.counter

abbrev pub invariant-loop-place : goal.invariant-loop-place
invariant-loop-place l =
    (u : ℕ) (unit : UnitPlan) → u < l.place → slice_get l.plan.units.items u ≡ Some unit → Has (get_or l.index (checksum unit.label.bytes) []) u
