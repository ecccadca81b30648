use Rattle.std.proofs.Common.{ℕ, None}
use Rattle.std.specs.Prelude.{slice_index_or}
use Rattle.j39_load.specs.AnyQueues.{IsBufferedFor}
use Rattle.j39_load.specs.inside.BufferingDelays.{IsShortWait}
use Rattle.j39_load.proofs.StatedPlaces.{AreReported}
use Rattle.j39_load.proofs.queues.buffering_delays.waits_of.Given as goal

abbrev pub invariant-loop-frames : goal.invariant-loop-frames
invariant-loop-frames l = AreReported (λ (j : ℕ). IsBufferedFor l.timing l.ends l.all (slice_index_or l.all j None)) IsShortWait l.frames-index l.waits.items
