use Rattle.std.proofs.Common.{◌≡◌, ◌-◌, ◌^◌, map, min, sum, take}
use Rattle.j39_line_check.specs.SetVariants.{variants_of_set}
use Rattle.j39_line_check.proofs.full_sets.number_of_variants.Given as goal

abbrev pub invariant-loop-set : goal.invariant-loop-set
invariant-loop-set l =
    l.count ≡ min (sum (map (variants_of_set l.line.choices.items) (map (λ s. s.items) (take l.set-index l.sets)))) (2 ^ 64 - 1)
