-- Steps of messages that come a period apart, in bits and in true time, by clocks that agree with this.
use Rattle.std.proofs.Common.{◌≡◌, ℕ, suc, ◌+◌, ◌*◌, ◌/◌, ◌<◌, ◌≤◌, Option, Some, None, sym, ap}
use Rattle.std.proofs.Common.{◌∙◌, subst, inl, inr, arith}
use Rattle.std.proofs.lemmas.Bool.{cases_lt}
use Rattle.std.proofs.Math.Nat.{div-mul-le_self, mul-le-mul_left, mul-le-mul_right}
use Rattle.std.specs.Option.{option_map_or}
use Rattle.j39_network.specs.declared.plan.timing.Bitrate.{Bitrate}
use Rattle.j39_network.specs.declared.plan.timing.Bitrate.TheVariants.{Kbit125, Kbit250, Kbit500, Mbit1}
use Rattle.j39_network.specs.declared.plan.timing.Timing.{Timing}
use Rattle.j39_load.specs.Clocks.{IsTrueTime, bit_time, longest_million, million, shortest_million}
use Rattle.j39_load.specs.Loads.{bits_at_least, bits_per_ms}
use Rattle.j39_load.proofs.Milliseconds.{faster, slower, some_fast}
use Rattle.j39_vehicle.specs.declared.vehicle.Vehicle.{Vehicle}
use Rattle.j39_vehicle_times.specs.Times.{timing_on}
use Rattle.j39_vehicle_laws.specs.Seen.{of_us}
use Rattle.j39_vehicle_laws.proofs.TrueTimes.{agreed_time}

-- how long a bit of the bus is, by a clock that agrees with true time
abbrev pub unit_at : Vehicle → ℕ → ℕ
unit_at v b = option_map_or (λ (timing : Timing). of_us (bit_time timing.bitrate)) (timing_on v.buses.items b) million

pub unit_small : (v : Vehicle) (b : ℕ) → unit_at v b ≤ 8000000
unit_small v b = go (timing_on v.buses.items b)
  where
    by_rate : (bitrate : Bitrate) → of_us (bit_time bitrate) ≤ 8000000
    by_rate Kbit125 = omega arith
    by_rate Kbit250 = omega arith
    by_rate Kbit500 = omega arith
    by_rate Mbit1 = omega arith

    go : (o : Option Timing) → option_map_or (λ (timing : Timing). of_us (bit_time timing.bitrate)) o million ≤ 8000000
    go None = omega arith
    go (Some timing) = by_rate timing.bitrate

pub unit_some : (v : Vehicle) (b : ℕ) → 1000000 ≤ unit_at v b
unit_some v b = go (timing_on v.buses.items b)
  where
    by_rate : (bitrate : Bitrate) → 1000000 ≤ of_us (bit_time bitrate)
    by_rate Kbit125 = omega arith
    by_rate Kbit250 = omega arith
    by_rate Kbit500 = omega arith
    by_rate Mbit1 = omega arith

    go : (o : Option Timing) → 1000000 ≤ option_map_or (λ (timing : Timing). of_us (bit_time timing.bitrate)) o million
    go None = omega arith
    go (Some timing) = by_rate timing.bitrate

-- it is one that a bus with this timing can have
pub unit_true : (v : Vehicle) (b : ℕ) (timing : Timing) → timing_on v.buses.items b ≡ Some timing → IsTrueTime timing (λ t. unit_at v b * t)
unit_true v b timing timed =
    let same : of_us (bit_time timing.bitrate) ≡ unit_at v b =
    sym (ap (λ (o : Option Timing). option_map_or (λ (t : Timing). of_us (bit_time t.bitrate)) o million) timed) in
    subst (λ (u : ℕ). IsTrueTime timing (λ t. u * t)) same (agreed_time timing)

-- ---- steps

-- a period in bits, of a clock that agrees with true time
rate_step : (bitrate : Bitrate) (ms : ℕ) → of_us (bit_time bitrate) * (ms * bits_per_ms bitrate) ≡ 1000 * ms * million
rate_step Kbit125 ms = omega arith
rate_step Kbit250 ms = omega arith
rate_step Kbit500 ms = omega arith
rate_step Mbit1 ms = omega arith

pub unit_step : (v : Vehicle) (b : ℕ) (timing : Timing) (ms : ℕ) → timing_on v.buses.items b ≡ Some timing
    → unit_at v b * (ms * bits_per_ms timing.bitrate) ≡ 1000 * ms * million
unit_step v b timing ms timed =
    ap (λ (o : Option Timing). option_map_or (λ (t : Timing). of_us (bit_time t.bitrate)) o million * (ms * bits_per_ms timing.bitrate)) timed
    ∙ rate_step timing.bitrate ms

-- a bit so many behind a step
pub behind_step : (unit width step q late : ℕ) → unit * width ≡ step → unit * (q * width + late) ≡ q * step + unit * late
behind_step unit width step q late same =
    let parts : unit * (q * width + late) ≡ q * (unit * width) + unit * late = grind arith in
    parts ∙ ap (λ (s : ℕ). q * s + unit * late) same

pub at_step : (unit width step q : ℕ) → unit * width ≡ step → unit * (q * width) ≡ q * step
at_step unit width step q same =
    let parts : unit * (q * width) ≡ q * (unit * width) = grind arith in
    parts ∙ ap (λ (s : ℕ). q * s) same

-- by a time there are no more steps than this, and what begins a few bits behind them is seen
pub is_seen : (p by width late : ℕ) → p < suc by → late ≤ 8 → p * width + late < suc by * width + (by + 100)
is_seen p by width late below few = let more : p * width ≤ suc by * width = mul-le-mul_right width (omega (arith, below)) in omega (arith, more, few)

-- no bits of a unit's clock are more than those of the bus's
pub fewer_bits : (timing : Timing) (ms : ℕ) → bits_at_least timing ms ≤ ms * bits_per_ms timing.bitrate
fewer_bits timing ms = elim (cases_lt (ms * bits_per_ms timing.bitrate) (bits_at_least timing ms)) [
  | inr from ↦ from
  | inl more ↦ absurd (
      let low = div-mul-le_self (ms * bits_per_ms timing.bitrate * shortest_million timing) (longest_million timing) in
      let times : suc (ms * bits_per_ms timing.bitrate) * longest_million timing ≤ bits_at_least timing ms * longest_million timing =
      mul-le-mul_right (longest_million timing) more in
      let less : ms * bits_per_ms timing.bitrate * shortest_million timing ≤ ms * bits_per_ms timing.bitrate * longest_million timing =
      mul-le-mul_left (ms * bits_per_ms timing.bitrate) (let one = slower timing in let other = faster timing in omega (arith, one, other)) in
      let some = some_fast timing in
      omega (arith, low, times, less, some))
]

-- the longer a step, the fewer there are
pub few_steps : (t step : ℕ) → 1 ≤ step → t / step ≤ t
few_steps t step some =
    let low = div-mul-le_self t step in
    let more : t / step * 1 ≤ t / step * step = mul-le-mul_left (t / step) some in
    omega (arith, low, more)
