-- Bits of a bus of a vehicle in true time, by its bitrate and the drift of clocks.
use Rattle.std.proofs.Common.{◌≡◌, ℕ, ◌+◌, ◌-◌, ◌*◌, ◌<◌, ◌≤◌, Option, Some, ap, subst, ◌∙◌, arith}
use Rattle.std.proofs.Math.Nat.{mul-div-le, mul-le-mul_left}
use Rattle.std.proofs.lemmas.Grind.{div_ceil_times}
use Rattle.std.specs.Int.{div_ceil}
use Rattle.std.specs.Option.{option_map_or}
use Rattle.j39_network.specs.declared.plan.timing.Bitrate.{Bitrate}
use Rattle.j39_network.specs.declared.plan.timing.Bitrate.TheVariants.{Kbit125, Kbit250, Kbit500, Mbit1}
use Rattle.j39_network.specs.declared.plan.timing.Timing.{Timing}
use Rattle.j39_load.specs.Clocks.{IsTrueTime, bit_time, longest_million, million, shortest_million}
use Rattle.j39_load.specs.Loads.{bits_at_least, bits_at_most, bits_per_ms, us_of_bits}
use Rattle.j39_load.proofs.Milliseconds.{faster, slower, some_slow, stated_in_time}
use Rattle.j39_vehicle_laws.specs.Gateways.{IsClock}
use Rattle.j39_vehicle.specs.declared.vehicle.Vehicle.{Vehicle}
use Rattle.j39_vehicle_times.specs.Times.{timing_on}
use Rattle.j39_vehicle_laws.specs.Seen.{SeenBuses, clock_on, longest_bit, of_us, shortest_bit}

pub shortest_is : (v : Vehicle) (b : ℕ) (timing : Timing) → timing_on v.buses.items b ≡ Some timing
    → shortest_bit v b ≡ bit_time timing.bitrate * shortest_million timing
shortest_is v b timing timed = ap (λ (o : Option Timing). option_map_or (λ (t : Timing). bit_time t.bitrate * shortest_million t) o 1) timed

pub longest_is : (v : Vehicle) (b : ℕ) (timing : Timing) → timing_on v.buses.items b ≡ Some timing
    → longest_bit v b ≡ bit_time timing.bitrate * longest_million timing
longest_is v b timing timed = ap (λ (o : Option Timing). option_map_or (λ (t : Timing). bit_time t.bitrate * longest_million t) o 1) timed

-- ---- a bus that lasts as its clock can have it

some_bit : (bitrate : Bitrate) (s : ℕ) → 0 < s → 0 < bit_time bitrate * s
some_bit Kbit125 s some = omega (arith, some)
some_bit Kbit250 s some = omega (arith, some)
some_bit Kbit500 s some = omega (arith, some)
some_bit Mbit1 s some = omega (arith, some)

pub clock_is : (v : Vehicle) (seen : SeenBuses) (b : ℕ) (timing : Timing) → timing_on v.buses.items b ≡ Some timing
    → IsTrueTime timing (seen b).time
    → IsClock (clock_on v seen b)
clock_is v seen b timing timed is = record {
  some_time = let some = some_bit timing.bitrate (shortest_million timing) (some_slow timing) in
      let same = shortest_is v b timing timed in omega (arith, some, same);
  at_least = λ t bits.
      let count : (t + bits) - t ≡ bits = omega arith in
      let least : (seen b).time t + bits * bit_time timing.bitrate * shortest_million timing ≤ (seen b).time (t + bits) =
      subst (λ (n : ℕ). (seen b).time t + n * bit_time timing.bitrate * shortest_million timing ≤ (seen b).time (t + bits)) count
      (is.at_least t (t + bits) (omega arith)) in
      let same : shortest_bit v b * bits ≡ bits * bit_time timing.bitrate * shortest_million timing =
      ap (λ (u : ℕ). u * bits) (shortest_is v b timing timed) ∙ grind arith in
      omega (arith, least, same);
  at_most = λ t bits.
      let count : (t + bits) - t ≡ bits = omega arith in
      let most : (seen b).time (t + bits) ≤ (seen b).time t + bits * bit_time timing.bitrate * longest_million timing =
      subst (λ (n : ℕ). (seen b).time (t + bits) ≤ (seen b).time t + n * bit_time timing.bitrate * longest_million timing) count
      (is.at_most t (t + bits) (omega arith)) in
      let same : longest_bit v b * bits ≡ bits * bit_time timing.bitrate * longest_million timing =
      ap (λ (u : ℕ). u * bits) (longest_is v b timing timed) ∙ grind arith in
      omega (arith, most, same);
}

-- ---- what is reported suffices

pub reported_here : (v : Vehicle) (b : ℕ) (timing : Timing) → timing_on v.buses.items b ≡ Some timing → (bits : ℕ)
    → longest_bit v b * bits ≤ of_us (us_of_bits timing bits)
reported_here v b timing timed bits =
    let stated = stated_in_time timing bits in
    let same : longest_bit v b * bits ≡ bits * bit_time timing.bitrate * longest_million timing =
    ap (λ (u : ℕ). u * bits) (longest_is v b timing timed) ∙ grind arith in
    omega (arith, stated, same)

late_by : (bitrate : Bitrate) (f s ms c : ℕ) → ms * bits_per_ms bitrate * f ≤ c * s → ms * million ≤ ms * f → 1000 * ms * million ≤ bit_time bitrate * s * c
late_by Kbit125 f s ms c few more = omega (arith, few, more)
late_by Kbit250 f s ms c few more = omega (arith, few, more)
late_by Kbit500 f s ms c few more = omega (arith, few, more)
late_by Mbit1 f s ms c few more = omega (arith, few, more)

-- so many true milliseconds are within the most bits of a unit's
pub room_here : (v : Vehicle) (b : ℕ) (timing : Timing) → timing_on v.buses.items b ≡ Some timing → (ms : ℕ)
    → of_us (1000 * ms) ≤ shortest_bit v b * bits_at_most timing ms
room_here v b timing timed ms =
    let (enough, _) = div_ceil_times (ms * bits_per_ms timing.bitrate * longest_million timing) (shortest_million timing) (some_slow timing) in
    let room = late_by timing.bitrate (longest_million timing) (shortest_million timing) ms (bits_at_most timing ms) enough
    (mul-le-mul_left ms (faster timing)) in
    let same : shortest_bit v b * bits_at_most timing ms ≡ bit_time timing.bitrate * shortest_million timing * bits_at_most timing ms =
    ap (λ (u : ℕ). u * bits_at_most timing ms) (shortest_is v b timing timed) in
    omega (arith, room, same)

near_by : (bitrate : Bitrate) (f s ms q : ℕ) → f * q ≤ ms * bits_per_ms bitrate * s → bit_time bitrate * f * q ≤ 1000 * ms * s
near_by Kbit125 f s ms q few = omega (arith, few)
near_by Kbit250 f s ms q few = omega (arith, few)
near_by Kbit500 f s ms q few = omega (arith, few)
near_by Mbit1 f s ms q few = omega (arith, few)

-- the least bits of so many milliseconds of a unit's clock last no longer than the fastest one has them
pub near_here : (v : Vehicle) (b : ℕ) (timing : Timing) → timing_on v.buses.items b ≡ Some timing → (ms : ℕ)
    → longest_bit v b * bits_at_least timing ms ≤ 1000 * ms * shortest_million timing
near_here v b timing timed ms =
    let near = near_by timing.bitrate (longest_million timing) (shortest_million timing) ms (bits_at_least timing ms)
    (mul-div-le (ms * bits_per_ms timing.bitrate * shortest_million timing) (longest_million timing)) in
    let same : longest_bit v b * bits_at_least timing ms ≡ bit_time timing.bitrate * longest_million timing * bits_at_least timing ms =
    ap (λ (u : ℕ). u * bits_at_least timing ms) (longest_is v b timing timed) in
    omega (arith, near, same)

-- nanoseconds that are rounded up are no fewer
pub in_us : (ns : ℕ) → 1000 * ns ≤ of_us (div_ceil ns 1000)
in_us ns = let (enough, _) = div_ceil_times ns 1000 (omega arith) in omega (arith, enough)

-- ---- a clock that agrees with true time

more_by : (bitrate : Bitrate) (s n m : ℕ) → n * s ≤ n * m → n * bit_time bitrate * s ≤ bit_time bitrate * m * n
more_by Kbit125 s n m less = omega (arith, less)
more_by Kbit250 s n m less = omega (arith, less)
more_by Kbit500 s n m less = omega (arith, less)
more_by Mbit1 s n m less = omega (arith, less)

less_by : (bitrate : Bitrate) (f n m : ℕ) → n * m ≤ n * f → bit_time bitrate * m * n ≤ n * bit_time bitrate * f
less_by Kbit125 f n m more = omega (arith, more)
less_by Kbit250 f n m more = omega (arith, more)
less_by Kbit500 f n m more = omega (arith, more)
less_by Mbit1 f n m more = omega (arith, more)

pub agreed_time : (timing : Timing) → IsTrueTime timing (λ t. of_us (bit_time timing.bitrate) * t)
agreed_time timing = record {
  at_least = λ a b below.
      let less = more_by timing.bitrate (shortest_million timing) (b - a) million (mul-le-mul_left (b - a) (slower timing)) in
      let at : a + (b - a) ≡ b = omega arith in
      subst (λ (c : ℕ). of_us (bit_time timing.bitrate) * a + (b - a) * bit_time timing.bitrate * shortest_million timing ≤ of_us
      (bit_time timing.bitrate) * c) at
      (omega (arith, less));
  at_most = λ a b below.
      let more = less_by timing.bitrate (longest_million timing) (b - a) million (mul-le-mul_left (b - a) (faster timing)) in
      let at : a + (b - a) ≡ b = omega arith in
      subst (λ (c : ℕ). of_us (bit_time timing.bitrate) * c ≤ of_us
      (bit_time timing.bitrate) * a + (b - a) * bit_time timing.bitrate * longest_million timing) at
      (omega (arith, more));
}
