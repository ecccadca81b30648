use Rattle.j39_line_check.proofs.ReportedLaws.{reported_is_had}
use Rattle.j39_line_check.proofs.conditions.findings_are_had_by_what_is_reported.Goals as goal

pub returns : goal.returns
returns c = reported_is_had
