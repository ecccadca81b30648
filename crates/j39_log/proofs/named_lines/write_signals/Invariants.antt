use Rattle.std.proofs.Common.{◌≡◌, ◌++◌, drop, length}
use Rattle.j39_log.specs.NamedReports.{named_signal_lines, named_single_signals}
use Rattle.j39_log.specs.inside.NameTables.{named_by, names_in}
use Rattle.j39_log.proofs.named_lines.write_signals.Given as goal

abbrev pub invariant-loop-place : goal.invariant-loop-place
invariant-loop-place l =
    l.text ++ named_signal_lines (names_in l.parameters) (named_single_signals (length l.bytes) (drop l.place (named_by l.values l.signals))) l.bytes
    ≡ l.initial.text ++ named_signal_lines (names_in l.parameters) (named_single_signals (length l.bytes) (named_by l.values l.signals)) l.bytes
