use Rattle.std.proofs.Common.{◌++◌, List, map, take}
use Rattle.j39_line_check.specs.inside.AddedFindings.{AreAdded, Pair, pair_counted, pair_of_condition}
use Rattle.j39_line_check.proofs.check.reported_by_conditions.Given as goal

abbrev pub invariant-loop-one : goal.invariant-loop-one
invariant-loop-one l = AreAdded (map pair_of_condition (take l.one-index l.found)) l.reported.items
