use Rattle.std.proofs.Common.{◌≡◌}
use Rattle.j39_bus.proofs.Columns.{IsCleared, in_row_or_column}
use Rattle.j39_bus.specs.BusState.{closed, holding_at}
use Rattle.j39_bus.proofs.receivers.Receivers.switch_off.Given as goal

abbrev pub invariant-loop-other : goal.invariant-loop-other
invariant-loop-other l = record {
  windows : l.self.windows ≡ l.fn.self.windows;
  cleared : IsCleared closed (in_row_or_column l.unit l.other) (holding_at l.fn.self.holdings) (holding_at l.self.holdings);
}
