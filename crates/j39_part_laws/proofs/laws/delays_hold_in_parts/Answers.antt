use Rattle.j39_part_laws.proofs.FlowDelays.{delays_no_later}
use Rattle.j39_part_laws.proofs.laws.delays_hold_in_parts.Goals as goal

pub returns : goal.returns
returns c = delays_no_later
