use Rattle.std.proofs.Common.{◌≡◌, ◌-◌, ◌^◌, map, min}
use Rattle.std.specs.List.{range_with_len}
use Rattle.j39_line_check.specs.SetVariants.{count_of_choice, product_of}
use Rattle.j39_line_check.proofs.set_variants.variants_of_set.Given as goal

abbrev pub invariant-loop-choice : goal.invariant-loop-choice
invariant-loop-choice l = l.count ≡ min (product_of (map (count_of_choice l.choices l.set) (range_with_len 0 l.choice))) (2 ^ 64 - 1)
