use Rattle.j39_line_bounds.proofs.ReportedNumbers.{numbers_bound}
use Rattle.j39_line_bounds.proofs.laws.reported_numbers_bound_times.Goals as goal

pub returns : goal.returns
returns c = numbers_bound
