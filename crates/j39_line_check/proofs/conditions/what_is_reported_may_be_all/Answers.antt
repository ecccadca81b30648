use Rattle.j39_line_check.proofs.ReportedLaws.{reported_may_be_all}
use Rattle.j39_line_check.proofs.conditions.what_is_reported_may_be_all.Goals as goal

pub returns : goal.returns
returns c = reported_may_be_all
