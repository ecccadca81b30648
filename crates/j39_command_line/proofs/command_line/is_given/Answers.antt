use Rattle.std.proofs.Common.{◌∙◌}
use Rattle.clap.specs.Words.{found_of}
use Rattle.clap.proofs.WalkLemmas.{one_text-rows}
use Rattle.j39_command_line.proofs.command_line.is_given.Goals as goal

pub returns-clause-given : goal.returns-clause-given
returns-clause-given c = λ is. c.get_flag.ensures.value (one_text-rows (found_of c.args.values.now) c.args.flag.now ∙ is)

pub returns-clause-not_given : goal.returns-clause-not_given
returns-clause-not_given c = λ is. c.get_flag.ensures.other (one_text-rows (found_of c.args.values.now) c.args.flag.now ∙ is)

pub returns-clause-unsaid : goal.returns-clause-unsaid
returns-clause-unsaid c = λ is. c.get_flag.ensures.none (one_text-rows (found_of c.args.values.now) c.args.flag.now ∙ is)
