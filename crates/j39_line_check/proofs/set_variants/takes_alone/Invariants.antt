use Rattle.std.proofs.Common.{◌≡◌, drop}
use Rattle.j39_line_check.specs.SetVariants.{takes_alone, takes_from}
use Rattle.j39_line_check.proofs.set_variants.takes_alone.Given as goal

abbrev pub invariant-loop-choice : goal.invariant-loop-choice
invariant-loop-choice l = takes_from l.set l.choice (drop l.choice l.variant) ≡ takes_alone l.set l.variant
