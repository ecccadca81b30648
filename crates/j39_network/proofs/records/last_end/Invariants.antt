use Rattle.std.proofs.Common.{◌≡◌, ◌≤◌, max, drop}
use Rattle.j39_network.specs.Records.{last_end}
use Rattle.j39_network.proofs.records.last_end.Given as goal

abbrev pub invariant-loop-signal : goal.invariant-loop-signal
invariant-loop-signal l = (max l.end (last_end (drop l.signal-index l.signals)) ≡ last_end l.signals) × (l.end ≤ 65599)
