use Rattle.std.proofs.Common.{rules}
use Rattle.j39_command_line.proofs.StampNumbers.{too_large}
use Rattle.j39_command_line.proofs.command_line.number_of.Goals as goal

pub returns-in_default : goal.returns-in_default
returns-in_default c = too_large c.args.digits.now c.parse.result c.parse.ensures.value.0 c.requires.digits c.requires.some (λ n is. search rules)
