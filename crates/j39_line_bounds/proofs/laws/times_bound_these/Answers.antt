use Rattle.j39_line_bounds.proofs.EachTimes.{bound_these}
use Rattle.j39_line_bounds.proofs.laws.times_bound_these.Goals as goal

pub returns : goal.returns
returns c = bound_these
