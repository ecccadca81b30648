use Rattle.std.proofs.Common.{rules, ◌≡◌}
use Rattle.j39_plan_text.proofs.Reported.{none_read, refused, reported}
use Rattle.j39_plan_text.proofs.reporting.report_text.Goals as goal

pub returns-in_err-line : goal.returns-in_err-line
returns-in_err-line g c = none_read c.line_text.result c.line_text.ensures.answers _ _ c.in_err-line.was (search rules)

pub returns-in-Some : goal.returns-in-Some
returns-in-Some g c =
    let same : c.line_text.new.sink ≡ c.args.sink.now = rw c.in-Some.is at c.in_ok-line.ensures.writes_nothing in
    reported c.line_text.result c.line_text.ensures.answers c.in-Some.line c.put_report.result (search rules) same c.put_report.ensures

pub returns-in-None : goal.returns-in-None
returns-in-None g c = refused c.line_text.result c.line_text.ensures.answers (search rules)
