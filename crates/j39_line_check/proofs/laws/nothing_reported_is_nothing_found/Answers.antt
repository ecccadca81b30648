use Rattle.j39_line_check.proofs.NothingReported.{nothing_found}
use Rattle.j39_line_check.proofs.laws.nothing_reported_is_nothing_found.Goals as goal

pub returns : goal.returns
returns c = nothing_found
