use Rattle.std.proofs.Common.{◌≡◌, ℕ, ◌<◌, length}
use Rattle.j39_vehicle_findings.specs.PathTables.{feeders, row_at}
use Rattle.j39_vehicle_findings.proofs.tables.feeders_on.Given as goal

abbrev pub invariant-flows : goal.invariant-flows
invariant-flows l = record {
  count : length l.rows.items ≡ l.flow;
  each : (f : ℕ) → f < length l.rows.items → row_at l.rows.items f ≡ feeders l.vehicle (record { bus = l.bus; flow = f });
}
