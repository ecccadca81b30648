use Rattle.std.proofs.Common.{◌≡◌, map, take}
use Rattle.j39_log.specs.inside.ValueLines.{items_of, value_lines_of}
use Rattle.j39_log.proofs.value_line.value_lines_of.Given as goal

abbrev pub invariant-loop-group : goal.invariant-loop-group
invariant-loop-group l = map items_of l.lines.items ≡ map value_lines_of (take l.group-index l.groups)
