use Rattle.j39_line_bounds.proofs.EachTimes.{none_yet}
use Rattle.j39_line_bounds.proofs.times.no_times.Goals as goal

pub returns : goal.returns
returns c = none_yet c.args.line.now c.in_ok-times.times c.in_ok-times.ensures
