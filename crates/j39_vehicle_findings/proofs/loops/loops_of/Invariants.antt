use Rattle.std.proofs.Common.{◌≡◌, ℕ, ◌<◌, length, false}
use Rattle.std.specs.Bool.{Decides}
use Rattle.std.specs.List.{slice_index_or}
use Rattle.j39_vehicle_findings.specs.ForwardEnds.{ComesAfter}
use Rattle.j39_vehicle_findings.proofs.loops.loops_of.Given as goal

abbrev pub invariant-all : goal.invariant-all
invariant-all l = record {
  count : length l.loops.items ≡ l.place;
  each : (n : ℕ) → n < length l.loops.items → Decides (slice_index_or l.loops.items n false) (ComesAfter l.vehicle n n);
}
