use Rattle.std.proofs.Common.{◌≡◌, ◌≤◌, ◌-◌, length, take}
use Rattle.std.specs.Io.KnownBytes.{Appends}
use Rattle.j39_stream.proofs.writing.put_all.Given as goal

abbrev pub invariant-loop-done : goal.invariant-loop-done
invariant-loop-done g l =
    (l.done ≤ length l.bytes)
    × Appends (g.W.Sink.state l.fn.sink).taken (g.W.Sink.state l.sink).taken (take l.done l.bytes)
    × ((g.W.Sink.state l.sink).failures ≡ (g.W.Sink.state l.fn.sink).failures)

abbrev pub decreases-loop-done : goal.decreases-loop-done
decreases-loop-done g l = length l.bytes - l.done
