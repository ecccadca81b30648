use Rattle.std.proofs.Common.{◌≡◌, ◌++◌, drop}
use Rattle.j39_log.specs.NamedReports.{named_record_lines, named_record_signals}
use Rattle.j39_log.specs.inside.NameTables.{named_by, names_in}
use Rattle.j39_log.proofs.named_lines.GroupNamesRecordWriter.write_record.Given as goal

abbrev pub invariant-loop-i : goal.invariant-loop-i
invariant-loop-i l =
    l.text ++ named_record_lines (names_in l.self.parameters.now) l.at.place
    (named_record_signals l.at.behind (drop l.i (named_by l.self.values.now l.at.signals.now))) l.at.bytes.now
    ≡ l.initial.text ++ named_record_lines (names_in l.self.parameters.now) l.at.place
    (named_record_signals l.at.behind (named_by l.self.values.now l.at.signals.now)) l.at.bytes.now
