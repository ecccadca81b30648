use Rattle.j39_line_check.proofs.ReportedLaws.{reported_is_condition}
use Rattle.j39_line_check.proofs.conditions.what_is_reported_is_a_condition.Goals as goal

pub returns : goal.returns
returns c = reported_is_condition
