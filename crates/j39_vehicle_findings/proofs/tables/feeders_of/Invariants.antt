use Rattle.std.proofs.Common.{◌≡◌, ◌<◌, length}
use Rattle.j39_vehicle_findings.specs.declared.point.FlowAt.{FlowAt}
use Rattle.j39_vehicle_findings.specs.PathTables.{feeders, row_of}
use Rattle.j39_vehicle_findings.proofs.tables.feeders_of.Given as goal

abbrev pub invariant-buses : goal.invariant-buses
invariant-buses l = record {
  count : length l.buses.items ≡ l.bus;
  each : (at : FlowAt) → at.bus < length l.buses.items → row_of l.buses.items at ≡ feeders l.vehicle at;
}
