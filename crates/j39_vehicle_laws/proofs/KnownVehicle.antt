-- A vehicle of which all is known that the law of vehicles asks: one bus with one frame, and others to which it is handed on.
use Rattle.std.proofs.Common.{◌≡◌, ℕ, zero, suc, ◌+◌, ◌*◌, ◌<◌, ◌≤◌, Bool, true, false, refl, arith, None, []}
use Rattle.j39_timing.specs.Sums.{total}
use Rattle.j39_timing.specs.TimedFrames.{IsLegal}
use Rattle.j39_timing.specs.FrameStreams.{AreOfStreams}
use Rattle.j39_timing.specs.Traffic.{DemandFits, no_twins, others_queued}
use Rattle.j39_timing.specs.Prefixes.{IsPlannedUntil, planned_until}
use Rattle.j39_vehicle_laws.specs.Gateways.{IsHandedOn, steady}
use Rattle.j39_vehicle_laws.proofs.Clocks.{steady_is}
use Rattle.j39_timing.proofs.Prefixes.{begun_until}
use Rattle.j39_vehicle_laws.specs.Vehicles.{Bus, Vehicle, IsKnown, carrier, input_at}
use Rattle.j39_timing.proofs.Demands.{nothing_wanted}

-- when the frame of a bus is queued, and begins: on the first bus at once, on the others at its end there
abbrev at : ℕ → ℕ
at zero = 0
at (suc b) = 160

abbrev jitter_at : ℕ → ℕ
jitter_at zero = 0
jitter_at (suc b) = 480

abbrev behind_at : ℕ → ℕ → ℕ
behind_at zero i = 320
behind_at (suc b) i = 800

abbrev is_further : ℕ → ℕ → Bool
is_further zero i = false
is_further (suc b) i = true

abbrev one_bus : ℕ → Bus
one_bus b = record {
  schedule = record { count = 1; queued = λ p. at b; start = λ p. at b; bits = λ p. 160; ident = λ p. 5; now = 1000 };
  clock = steady 0 1;
  planned = λ p. true;
  of = record { source = λ p. 0; turn = λ p. 0; since = λ p. 0 };
  traffic = record {
    count = 1;
    stream = λ j. record { frames = 1; period = 10000; bits = 160; jitter = jitter_at b; wanted = None };
    demands = [];
    least = λ j. 5;
    greatest = λ j. 5;
    are_twins = no_twins;
  };
  others = record { least = 6; count = 0 };
  longest = 160;
  release = λ p. 0;
}

abbrev pub vehicle : Vehicle
vehicle = record {
  bus = one_bus;
  direct = is_further;
  from_bus = λ b i. 0;
  from_stream = λ b i. 0;
  within = λ b i. 160;
  wait = λ b i. 160;
  behind = behind_at;
  apart = λ b i. 10000;
}

only : (p q : ℕ) → p < 1 → q < 1 → p ≡ q
only p q in_p in_q = omega arith

none_waits : (b : ℕ) → at b ≤ at b
none_waits b = omega arith

legal : (b : ℕ) → IsLegal (one_bus b).schedule
legal b = record {
  positive = λ p in_p. omega arith;
  queued_first = λ p in_p. omega arith;
  alone = λ p q t in_p in_q seen on also. only p q in_p in_q;
  never_idle = λ p t in_p seen waits. absurd (let after = waits.0 in let before = waits.1 in omega arith);
  in_order = λ p q in_p in_q seen waits. omega arith;
}

handed : (b i : ℕ) → is_further b i ≡ true → IsHandedOn (input_at vehicle b i) (carrier vehicle b i) 160
handed zero i is = absurd cc
handed (suc b) i is = record {
  what = λ q. 0;
  begun = λ q its. ((omega arith, refl, refl), omega arith);
  releases = λ q its. refl;
  after = λ q its. omega arith;
  within_time = λ q its. omega arith;
  different = λ p q its other differ same. differ (only p q its.0 other.0);
  first_bit = λ q its. omega arith;
  last_bit = λ q its. omega arith;
}

none_others : (b c from to : ℕ) → others_queued (one_bus b).schedule (one_bus b).planned c from to ≤ 0
unfolding total
none_others b c from to = omega arith

demand_fits : (b i : ℕ) → DemandFits (one_bus b).traffic (one_bus b).others 160 0 160
unfolding total
demand_fits b i = omega arith

known_until : (b by : ℕ)
    → AreOfStreams (one_bus b).schedule (λ p. planned_until (one_bus b).schedule (one_bus b).planned by p ≡ true) 1 (one_bus b).traffic.stream (one_bus b).of
    → IsPlannedUntil (one_bus b).schedule (one_bus b).traffic (one_bus b).others 160 (one_bus b).planned (one_bus b).of 0 by
known_until b by streams = record {
  longest_at_most = λ p in_p. omega arith;
  of_streams = streams;
  as_wanted =
      nothing_wanted (one_bus b).schedule (planned_until (one_bus b).schedule (one_bus b).planned by) (one_bus b).of [] (one_bus b).traffic.stream (λ j. refl);
  from_least = λ p in_p is. omega arith;
  to_greatest = λ p in_p is source. omega arith;
  own_identifier = λ p q t in_p in_q seen is shared at_p at_q same. (refl, refl);
  urgency_of_others = λ p in_p isnt. absurd cc;
  few_others = λ p from to in_p is source seen waits stretch. none_others b 5 from to;
}

late_first : (b i : ℕ) → is_further b i ≡ true → 320 + 160 ≤ 1 * jitter_at b
late_first zero i is = absurd cc
late_first (suc b) i is = omega arith

own_jitter_at : (b : ℕ) → is_further b 0 ≡ false → at b ≤ 0 + jitter_at b
own_jitter_at zero is = omega arith
own_jitter_at (suc b) is = absurd cc

behind_its_own : (b i : ℕ) → is_further b i ≡ false → 1 * (jitter_at b + (160 + 160)) ≤ behind_at b i
behind_its_own zero i is = omega arith
behind_its_own (suc b) i is = absurd cc

behind_further : (b i : ℕ) → is_further b i ≡ true → (320 + 160) + 1 * (160 + 160) ≤ behind_at b i
behind_further zero i is = absurd cc
behind_further (suc b) i is = omega arith

pub known : IsKnown vehicle
known = record {
  clocks = λ b. steady_is 0 1 (omega arith);
  some_bits = λ b p in_p. omega arith;
  queued_first = λ b p in_p. omega arith;
  known = λ b p its. omega arith;
  bits_at_most = λ b p its. omega arith;
  turns = λ b p its. omega arith;
  own_first = λ b p its own. omega arith;
  own_jitter = λ b p its own. own_jitter_at b own;
  own_release = λ b p its own. refl;
  own_spaced = λ b p q its other differ own source turn paced. absurd (differ (only p q its.0 other.0));
  own_apart = λ b i p q its other differ single own. absurd (differ (only p q its.0 other.0));
  handed = handed;
  single = λ b i is. (refl, refl);
  input_single = λ b i is. (refl, refl);
  input_begun = λ b i by is seen streams. begun_until (one_bus 0).schedule (one_bus 0).traffic (one_bus 0).others 160 (one_bus 0).planned (one_bus 0).of 0
      by seen (known_until 0 by streams) (legal 0) 160 (λ j in_j. omega arith) (demand_fits 0 i) (refl, refl) (omega arith);
  jitter_enough = late_first;
  often_enough = λ b i is. omega arith;
  behind_own = behind_its_own;
  behind_direct = behind_further;
  apart_direct = λ b i is. omega arith;
}
