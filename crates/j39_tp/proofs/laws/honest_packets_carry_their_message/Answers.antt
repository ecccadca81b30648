use Rattle.j39_tp.proofs.Honest.{states_first, states_more, carried_is}
use Rattle.j39_tp.proofs.laws.honest_packets_carry_their_message.Goals as goal

pub returns-clause-announced : goal.returns-clause-announced
returns-clause-announced c = states_first

pub returns-clause-goes_on : goal.returns-clause-goes_on
returns-clause-goes_on c = states_more

pub returns-clause-carries : goal.returns-clause-carries
returns-clause-carries c = carried_is
