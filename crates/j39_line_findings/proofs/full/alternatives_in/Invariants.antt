use Rattle.std.proofs.Common.{◌≡◌, take}
use Rattle.j39_load.specs.LineLists.{lines_of_each}
use Rattle.j39_line_findings.specs.FullVariants.{alternatives_of_choice}
use Rattle.j39_line_findings.proofs.full.alternatives_in.Given as goal

abbrev pub invariant-loop-choice : goal.invariant-loop-choice
invariant-loop-choice l = l.alternatives.items ≡ lines_of_each alternatives_of_choice 0 (take l.choice l.choices)
