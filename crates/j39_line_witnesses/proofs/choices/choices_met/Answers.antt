use Rattle.std.proofs.Common.{sym, ◌∙◌}
use Rattle.j39_line_witnesses.specs.Presences.{condition_of}
use Rattle.j39_line_witnesses.specs.ReportedChoices.{choices_if_met}
use Rattle.j39_line_witnesses.proofs.ChoiceLists.{lines_of_map}
use Rattle.j39_line_witnesses.proofs.choices.choices_met.Goals as goal

pub returns : goal.returns
returns c = c.in_ok-met.ensures ∙ sym (lines_of_map (choices_if_met c.args.line.now c.args.variant.now) condition_of 0 c.args.conditions.now)
