use Rattle.std.proofs.Common.{◌++◌, List, map, take}
use Rattle.j39_variants.specs.declared.line.Alternative.{Alternative}
use Rattle.j39_line_check.specs.SetVariants.{AreWidest, with_each_choice}
use Rattle.j39_line_check.proofs.full_sets.add_sets.Given as goal

abbrev pub invariant-loop-set : goal.invariant-loop-set
invariant-loop-set l = (before : List (List Alternative)) → AreWidest (with_each_choice l.choices before) (map (λ s. s.items) l.initial.kept.items)
    → AreWidest (with_each_choice l.choices (before ++ map (λ s. s.items) (take l.set-index l.sets))) (map (λ s. s.items) l.kept.items)
