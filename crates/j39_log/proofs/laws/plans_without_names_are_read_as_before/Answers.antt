use Rattle.j39_log.proofs.Unnamed.{states_alone}
use Rattle.j39_log.proofs.laws.plans_without_names_are_read_as_before.Goals as goal

pub returns : goal.returns
returns c = states_alone
