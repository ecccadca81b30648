use Rattle.std.proofs.Common.{◌++◌, List, map, take}
use Rattle.j39_line_check.specs.inside.AddedFindings.{AreAdded, Pair, pair_counted, pair_of_condition}
use Rattle.j39_line_check.proofs.check.add_counted.Given as goal

abbrev pub invariant-loop-witnessed : goal.invariant-loop-witnessed
invariant-loop-witnessed l = (all : List Pair) → AreAdded all l.initial.reported.items
    → AreAdded (all ++ map (pair_counted (map (λ v. v.items) l.variants)) (take l.witnessed-index l.counted)) l.reported.items
