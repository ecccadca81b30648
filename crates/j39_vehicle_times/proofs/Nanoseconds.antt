-- How large numbers of nanoseconds are, and of bits.
use Rattle.std.proofs.Common.{ℕ, ◌*◌, ◌≤◌, arith}
use Rattle.std.proofs.Math.Nat.{mul-le-mul_left}
use Rattle.j39_network.specs.declared.plan.timing.Timing.{Timing}
use Rattle.j39_load.specs.Clocks.{longest_million}
use Rattle.j39_load.specs.Loads.{bits_at_most}
use Rattle.j39_load.proofs.Milliseconds.{few_at_most}

-- and of bits of milliseconds
pub few_bits : (timing : Timing) (ms : ℕ) → bits_at_most timing ms ≤ 1050 * ms
few_bits = few_at_most

pub few_ns : (timing : Timing) (ms : ℕ) → ms * longest_million timing ≤ ms * 1020000
few_ns timing ms = let few = timing.drift_range in mul-le-mul_left ms (omega (arith, few))
