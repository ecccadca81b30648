use Rattle.j39_command_line.proofs.CommandLaws.{added}
use Rattle.j39_command_line.proofs.commands.with_one.Goals as goal

pub returns : goal.returns
returns c = added c.args.program c.with.result c.one_value.result _ c.one_value.ensures.app c.with.ensures
