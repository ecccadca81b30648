use Rattle.std.proofs.Common.{◌≡◌, ◌++◌, drop}
use Rattle.j39_network.specs.Records.{record_signals}
use Rattle.j39_log.specs.LogReports.{record_lines}
use Rattle.j39_log.proofs.record_lines.NoNamesRecordWriter.write_record.Given as goal

abbrev pub invariant-loop-i : goal.invariant-loop-i
invariant-loop-i l =
    l.text ++ record_lines l.at.place (record_signals l.at.behind (drop l.i l.at.signals.now)) l.at.bytes.now
    ≡ l.initial.text ++ record_lines l.at.place (record_signals l.at.behind l.at.signals.now) l.at.bytes.now
