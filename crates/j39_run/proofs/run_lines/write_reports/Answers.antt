use Rattle.std.proofs.Common.{append_assoc}
use Rattle.std.proofs.lemmas.List.{append-nil, drop_all}
use Rattle.j39_run.specs.RunText.{report_lines}
use Rattle.j39_run.proofs.RunLists.{reports_from}
use Rattle.j39_run.proofs.run_lines.write_reports.Goals as goal

pub loop-report-preserved : goal.loop-report-preserved
loop-report-preserved c =
    let next = reports_from c.args.plan.now c.args.reports.now c.loop-report.report-index c.report-item.result c.loop-report-test.true in
    rw (c.in_ok-write_report.ensures, append_assoc, c.report-item.is) (rw next at c.loop-report.invariant)

pub returns : goal.returns
unfolding report_lines
returns c =
    let done = drop_all c.loop-report.report-index c.args.reports.now c.loop-report-test.false in
    rw (done, append-nil) at c.loop-report.invariant
