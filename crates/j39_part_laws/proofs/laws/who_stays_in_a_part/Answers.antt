use Rattle.j39_part_laws.proofs.Staying.{stay_there}
use Rattle.j39_part_laws.proofs.laws.who_stays_in_a_part.Goals as goal

pub returns : goal.returns
returns c = stay_there
