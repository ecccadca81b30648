use Rattle.std.proofs.Common.{◌≡◌, ◌++◌, drop, length}
use Rattle.j39_network.specs.Records.{single_signals}
use Rattle.j39_log.specs.LogReports.{signal_lines}
use Rattle.j39_log.proofs.group_report.write_signals.Given as goal

abbrev pub invariant-loop-place : goal.invariant-loop-place
invariant-loop-place l =
    l.text ++ signal_lines (single_signals (length l.bytes) (drop l.place l.signals)) l.bytes
    ≡ l.initial.text ++ signal_lines (single_signals (length l.bytes) l.signals) l.bytes
