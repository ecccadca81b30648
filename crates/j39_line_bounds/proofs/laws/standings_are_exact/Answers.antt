use Rattle.j39_line_bounds.proofs.Standings.{exact}
use Rattle.j39_line_bounds.proofs.laws.standings_are_exact.Goals as goal

pub returns : goal.returns
returns c = exact
