use Rattle.j39_part_laws.proofs.Shares.{are_bounded}
use Rattle.j39_part_laws.proofs.laws.less_asked_waits_no_longer.Goals as goal

pub returns : goal.returns
returns c = are_bounded
