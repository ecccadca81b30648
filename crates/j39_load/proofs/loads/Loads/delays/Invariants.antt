use Rattle.std.proofs.Common.{◌≡◌, ℕ, ◌<◌, ◌≤◌, length, None, vec_len, vec_capacity}
use Rattle.std.specs.Prelude.{slice_index_or}
use Rattle.j39_load.specs.AskedLoads.{asked_in}
use Rattle.j39_load.specs.Delays.{HasDelay}
use Rattle.j39_load.proofs.loads.Loads.delays.Given as goal

abbrev pub invariant-loop-flow : goal.invariant-loop-flow
invariant-loop-flow l = record {
  len : vec_len l.delays ≡ l.flow;
  room : length l.self.flows.items ≤ vec_capacity l.delays;
  each : (k : ℕ) → k < length l.delays.items → HasDelay l.self.timing (asked_in l.self) k (slice_index_or l.delays.items k None);
}
