-- What a stream of an audit is by exact clocks of units and of the bus.
use Rattle.std.specs.Prelude.{◌≡◌, ℕ, ◌*◌}
use Rattle.std.specs.Option.{option_map_or}
use Rattle.j39_network.specs.declared.plan.timing.ErrorRate.{ErrorRate}
use Rattle.j39_network.specs.declared.plan.timing.Timing.{Timing}
use Rattle.j39_audit.specs.Moments.{bit_us, reach_back}
use Rattle.j39_audit.specs.UnitTimes.{longest_us, shortest_us}
use Rattle.j39_audit_laws.specs.MarkRecords.{longest_reach}

-- where clocks don't drift, times of units differ by a thousandth, and the idle mark reaches back as far as frames and damage do
pub record AreExact (t : Timing) : Type 0 where
  pub shortest : (ms : ℕ) → shortest_us t ms ≡ 999 * ms
  pub longest : (ms : ℕ) → longest_us t ms ≡ 1001 * ms
  pub reach : (bytes : ℕ) → reach_back t bytes ≡ longest_reach (bit_us t.bitrate) bytes (option_map_or (λ (e : ErrorRate). e.count) t.errors 0)

abbrev pub ExactClocks : Type 0
ExactClocks = (t : Timing) → t.drift ≡ 0 → AreExact t
