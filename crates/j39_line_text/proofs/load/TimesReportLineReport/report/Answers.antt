use Rattle.std.proofs.Common.{inr}
use Rattle.j39_line_text.proofs.load.TimesReportLineReport.report.Goals as goal

pub returns-in-Some : goal.returns-in-Some
returns-in-Some c = inr (c.in-Some.ensures.0, (c.in-Some.timing, c.in-Some.ensures.1, c.in_ok-report-in-Some.ensures c.in-Some.ensures.1))
