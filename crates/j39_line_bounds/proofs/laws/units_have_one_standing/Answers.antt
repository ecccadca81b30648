use Rattle.j39_line_bounds.proofs.Standings.{one_standing}
use Rattle.j39_line_bounds.proofs.laws.units_have_one_standing.Goals as goal

pub returns : goal.returns
returns c = one_standing
