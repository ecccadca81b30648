use Rattle.std.proofs.Common.{◌≡◌, ◌++◌}
use Rattle.j39_log.specs.LogReports.{lines_of_records}
use Rattle.j39_log.proofs.record_lines.write_all_records.Given as goal

abbrev pub invariant-loop-record : goal.invariant-loop-record
invariant-loop-record g l =
    l.text ≡ l.initial.text ++ lines_of_records (g.R.RecordWriter.lines l.writer l.group.signals.items l.bytes) l.every l.record
