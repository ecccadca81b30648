use Rattle.std.proofs.Common.{◌≡◌, map, take}
use Rattle.j39_log.specs.inside.ValueLines.{value_line_of}
use Rattle.j39_log.proofs.value_line.value_lines.Given as goal

abbrev pub invariant-loop-signal : goal.invariant-loop-signal
invariant-loop-signal l = l.lines.items ≡ map value_line_of (take l.signal-index l.signals)
