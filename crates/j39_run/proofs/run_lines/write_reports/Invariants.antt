use Rattle.std.proofs.Common.{◌≡◌, ◌++◌, map, drop}
use Rattle.j39_bus.specs.Reports.{reported_of}
use Rattle.j39_run.specs.RunText.{report_lines}
use Rattle.j39_run.proofs.run_lines.write_reports.Given as goal

abbrev pub invariant-loop-report : goal.invariant-loop-report
invariant-loop-report l =
    l.text ++ report_lines l.plan (map reported_of (drop l.report-index l.reports)) ≡ l.initial.text ++ report_lines l.plan (map reported_of l.reports)
