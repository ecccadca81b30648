use Rattle.std.proofs.Common.{sym, ◌∙◌}
use Rattle.j39_command_line.proofs.StampNumbers.{no_number, of_number}
use Rattle.j39_command_line.proofs.command_line.quiet_number.Goals as goal

pub returns-in-Some : goal.returns-in-Some
returns-in-Some c = c.quiet_if.ensures ∙ of_number _ _ (sym c.in-Some.is ∙ c.number_of.ensures)

pub returns-in-None : goal.returns-in-None
returns-in-None c = no_number _ (sym c.in-None.is ∙ c.number_of.ensures)
