use Rattle.j39_line_check.proofs.ReportedOfLines.{reported_of_line_is_had}
use Rattle.j39_line_check.proofs.conditions.reported_findings_are_had.Goals as goal

pub returns : goal.returns
returns c = reported_of_line_is_had
