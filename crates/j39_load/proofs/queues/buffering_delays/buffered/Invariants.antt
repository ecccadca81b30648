use Rattle.std.proofs.Common.{◌≡◌, take, length, All}
use Rattle.j39_load.specs.AnyQueues.{buffered_at}
use Rattle.j39_load.specs.LineLists.{lines_of_each}
use Rattle.j39_load.specs.SoundLoads.{FitIfAny}
use Rattle.j39_load.proofs.queues.buffering_delays.buffered.Given as goal

abbrev pub invariant-loop-place : goal.invariant-loop-place
invariant-loop-place l = record {
  frames : l.later.items ≡ lines_of_each (buffered_at l.waits) 0 (take l.place l.all);
  fit : All FitIfAny l.later.items;
  count : length l.later.items ≡ l.place;
}
