use Rattle.std.proofs.Common.{◌≡◌, map, take}
use Rattle.j39_log.specs.ReportHeads.{report_head}
use Rattle.j39_log.proofs.report_head.report_heads.Given as goal

abbrev pub invariant-loop-group : goal.invariant-loop-group
invariant-loop-group l = l.heads.items ≡ map report_head (take l.group-index l.groups)
