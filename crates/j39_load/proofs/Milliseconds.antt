-- Milliseconds in bits, by whichever clock, at each bitrate.
use Rattle.std.proofs.Common.{◌≡◌, ℕ, suc, ◌+◌, ◌*◌, ◌/◌, ◌<◌, ◌≤◌, inl, inr, arith, ap, ◌∙◌}
use Rattle.std.proofs.Math.Nat.{mul-le-mul_left, mul-le-mul_right, div-mul-le_self, lt-div-mul-add, mul-div_cancel}
use Rattle.std.proofs.lemmas.Bool.{cases_lt}
use Rattle.std.proofs.lemmas.Grind.{div_ceil_times}
use Rattle.std.specs.Int.{div_ceil}
use Rattle.j39_network.specs.declared.plan.timing.Bitrate.{Bitrate}
use Rattle.j39_network.specs.declared.plan.timing.Bitrate.TheVariants.{Kbit125, Kbit250, Kbit500, Mbit1}
use Rattle.j39_network.specs.declared.plan.timing.Timing.{Timing}
use Rattle.j39_load.specs.Clocks.{bit_time, longest_million, million, shortest_million}
use Rattle.j39_load.specs.Loads.{bits_a_second, bits_at_least, bits_at_most, bits_inside, bits_of_ms, bits_per_ms, us_of_bits, us_of_unit_ms}
use Rattle.j39_load.specs.SentFrames.{IsMsBefore, IsMsBehind, IsWithinEachMs, IsWithinMs, IsWithinUnitMs}

pub some_fast : (timing : Timing) → 0 < longest_million timing
some_fast timing = omega arith

pub some_slow : (timing : Timing) → 0 < shortest_million timing
some_slow timing = let few = timing.drift_range in omega (arith, few)

pub slower : (timing : Timing) → shortest_million timing ≤ million
slower timing = omega arith

pub faster : (timing : Timing) → million ≤ longest_million timing
faster timing = omega arith

-- ---- at least, by quotients

-- so many times a divisor more than so many are no more bits than a quotient has
over : (bitrate : Bitrate) (f s ms a b q : ℕ) → q * f ≤ ms * bits_per_ms bitrate * s → suc b * f ≤ (a + q) * f
    → a * bit_time bitrate * f + 1000 * ms * s < (b + 1) * bit_time bitrate * f → ⊥
over Kbit125 f s ms a b q low times behind = omega (arith, low, times, behind)
over Kbit250 f s ms a b q low times behind = omega (arith, low, times, behind)
over Kbit500 f s ms a b q low times behind = omega (arith, low, times, behind)
over Mbit1 f s ms a b q low times behind = omega (arith, low, times, behind)

least_apart : (bitrate : Bitrate) (f s ms a b : ℕ) → a * bit_time bitrate * f + 1000 * ms * s < (b + 1) * bit_time bitrate * f
    → a + ms * bits_per_ms bitrate * s / f ≤ b
least_apart bitrate f s ms a b behind = elim (cases_lt b (a + ms * bits_per_ms bitrate * s / f)) [
  | inr from ↦ from
  | inl less ↦ absurd (over bitrate f s ms a b (ms * bits_per_ms bitrate * s / f) (div-mul-le_self (ms * bits_per_ms bitrate * s) f)
      (mul-le-mul_right f less) behind)
]

pub behind_bits : (timing : Timing) (ms a b : ℕ) → IsMsBehind timing ms a b → a + bits_at_least timing ms ≤ b
behind_bits timing ms a b behind = least_apart timing.bitrate (longest_million timing) (shortest_million timing) ms a b behind

-- the quotient is the greatest number
greatest : (x f n : ℕ) → n * f ≤ x → 0 < f → n ≤ x / f
greatest x f n fits some = elim (cases_lt (x / f) n) [
  | inr from ↦ from
  | inl less ↦ absurd (
      let high = lt-div-mul-add {a = x} {b = f} some in
      let times : suc (x / f) * f ≤ n * f = mul-le-mul_right f less in
      omega (arith, times, fits, high))
]

times_over : (n ms b s f : ℕ) → ms * b * s / f * f ≤ ms * b * s → n * (ms * b * s / f) * f ≤ n * ms * b * s
times_over n ms b s f low =
    let more : n * (ms * b * s / f * f) ≤ n * (ms * b * s) = mul-le-mul_left n low in
    let left : n * (ms * b * s / f) * f ≡ n * (ms * b * s / f * f) = grind arith in
    let right : n * ms * b * s ≡ n * (ms * b * s) = grind arith in
    omega (arith, more, left, right)

pub gaps_bits : (timing : Timing) (n gap a b : ℕ) → IsMsBehind timing (n * gap) a b → a + n * bits_at_least timing gap ≤ b
gaps_bits timing n gap a b behind =
    let all = behind_bits timing (n * gap) a b behind in
    let each = greatest (n * gap * bits_per_ms timing.bitrate * shortest_million timing) (longest_million timing) (n * bits_at_least timing gap)
    (times_over n gap (bits_per_ms timing.bitrate) (shortest_million timing) (longest_million timing)
    (div-mul-le_self (gap * bits_per_ms timing.bitrate * shortest_million timing) (longest_million timing))) (some_fast timing) in
    omega (arith, all, each)

-- ---- within true time

within_true : (bitrate : Bitrate) (f m ms a b q : ℕ) → q * f ≤ ms * bits_per_ms bitrate * m → b * f ≤ (a + q) * f
    → b * bit_time bitrate * f ≤ a * bit_time bitrate * f + 1000 * ms * m
within_true Kbit125 f m ms a b q low times = omega (arith, low, times)
within_true Kbit250 f m ms a b q low times = omega (arith, low, times)
within_true Kbit500 f m ms a b q low times = omega (arith, low, times)
within_true Mbit1 f m ms a b q low times = omega (arith, low, times)

pub in_ms : (timing : Timing) (ms a b : ℕ) → b ≤ a + bits_inside timing ms → IsWithinMs timing ms a b
in_ms timing ms a b within = within_true timing.bitrate (longest_million timing) million ms a b (bits_inside timing ms)
    (div-mul-le_self (ms * bits_per_ms timing.bitrate * million) (longest_million timing)) (mul-le-mul_right (longest_million timing) within)

pub in_each_ms : (timing : Timing) (ms a b : ℕ) → b ≤ a + bits_at_least timing ms → IsWithinEachMs timing ms a b
in_each_ms timing ms a b within = within_true timing.bitrate (longest_million timing) (shortest_million timing) ms a b (bits_at_least timing ms)
    (div-mul-le_self (ms * bits_per_ms timing.bitrate * shortest_million timing) (longest_million timing)) (mul-le-mul_right (longest_million timing) within)

not_before : (bitrate : Bitrate) (f m ms a b q : ℕ) → q * f ≤ ms * bits_per_ms bitrate * m → b * f ≤ (a + q) * f
    → a * bit_time bitrate * f + 1000 * ms * m < b * bit_time bitrate * f → ⊥
not_before Kbit125 f m ms a b q low times before = omega (arith, low, times, before)
not_before Kbit250 f m ms a b q low times before = omega (arith, low, times, before)
not_before Kbit500 f m ms a b q low times before = omega (arith, low, times, before)
not_before Mbit1 f m ms a b q low times before = omega (arith, low, times, before)

pub before_bits : (timing : Timing) (ms a b : ℕ) → IsMsBefore timing ms a b → a + bits_inside timing ms < b
before_bits timing ms a b before = elim (cases_lt (a + bits_inside timing ms) b) [
  | inl less ↦ less
  | inr from ↦ absurd (not_before timing.bitrate (longest_million timing) million ms a b (bits_inside timing ms)
      (div-mul-le_self (ms * bits_per_ms timing.bitrate * million) (longest_million timing)) (mul-le-mul_right (longest_million timing) from) before)
]

-- a millisecond of a unit has no more bits at least than one of true time has at most
pub least_inside : (timing : Timing) (ms : ℕ) → bits_at_least timing ms ≤ bits_inside timing ms
least_inside timing ms =
    let low = div-mul-le_self (ms * bits_per_ms timing.bitrate * shortest_million timing) (longest_million timing) in
    let more : ms * bits_per_ms timing.bitrate * shortest_million timing ≤ ms * bits_per_ms timing.bitrate * million =
    mul-le-mul_left (ms * bits_per_ms timing.bitrate) (slower timing) in
    greatest (ms * bits_per_ms timing.bitrate * million) (longest_million timing) (bits_at_least timing ms) (omega (arith, low, more)) (some_fast timing)

-- ---- at most, by a unit

within_unit : (bitrate : Bitrate) (f s ms a b c : ℕ) → ms * bits_per_ms bitrate * f ≤ c * s → (a + c + 1) * s ≤ b * s
    → b * bit_time bitrate * s < (a + 1) * bit_time bitrate * s + 1000 * ms * f → ⊥
within_unit Kbit125 f s ms a b c high times within = omega (arith, high, times, within)
within_unit Kbit250 f s ms a b c high times within = omega (arith, high, times, within)
within_unit Kbit500 f s ms a b c high times within = omega (arith, high, times, within)
within_unit Mbit1 f s ms a b c high times within = omega (arith, high, times, within)

pub within_bits : (timing : Timing) (ms a b : ℕ) → IsWithinUnitMs timing ms a b → b ≤ a + bits_at_most timing ms
within_bits timing ms a b within = elim (cases_lt (a + bits_at_most timing ms) b) [
  | inr from ↦ from
  | inl more ↦ absurd (within_unit timing.bitrate (longest_million timing) (shortest_million timing) ms a b (bits_at_most timing ms)
      (div_ceil_times (ms * bits_per_ms timing.bitrate * longest_million timing) (shortest_million timing) (some_slow timing)).0
      (mul-le-mul_right (shortest_million timing) (let less = more in omega (arith, less))) within)
]

-- a number of times that suffices is no less than the quotient that is rounded up
suffices : (x s n : ℕ) → x ≤ n * s → 0 < s → div_ceil x s ≤ n
suffices x s n fits some = elim (cases_lt n (div_ceil x s)) [
  | inr from ↦ from
  | inl less ↦ absurd (
      let (low, high) = div_ceil_times x s some in
      let times : suc n * s ≤ div_ceil x s * s = mul-le-mul_right s less in
      omega (arith, times, fits, high))
]

-- of two times together
pub within_both : (timing : Timing) (ms more a b : ℕ) → IsWithinUnitMs timing (ms + more) a b → b ≤ a + (bits_at_most timing ms + bits_at_most timing more)
within_both timing ms more a b within =
    let all = within_bits timing (ms + more) a b within in
    let (first, _) = div_ceil_times (ms * bits_per_ms timing.bitrate * longest_million timing) (shortest_million timing) (some_slow timing) in
    let (second, _) = div_ceil_times (more * bits_per_ms timing.bitrate * longest_million timing) (shortest_million timing) (some_slow timing) in
    let left : (ms + more) * bits_per_ms timing.bitrate * longest_million timing
    ≡ ms * bits_per_ms timing.bitrate * longest_million timing + more * bits_per_ms timing.bitrate * longest_million timing =
    grind arith in
    let right : (bits_at_most timing ms + bits_at_most timing more) * shortest_million timing
    ≡ bits_at_most timing ms * shortest_million timing + bits_at_most timing more * shortest_million timing =
    grind arith in
    let both = suffices ((ms + more) * bits_per_ms timing.bitrate * longest_million timing) (shortest_million timing)
    (bits_at_most timing ms + bits_at_most timing more)
    (omega (arith, first, second, left, right)) (some_slow timing) in
    omega (arith, all, both)

-- ---- some bits

one_ms : (bitrate : Bitrate) (f s ms : ℕ) → 1 * s ≤ ms * s → f ≤ 125 * s → 1 * f ≤ ms * bits_per_ms bitrate * s
one_ms Kbit125 f s ms more few = omega (arith, more, few)
one_ms Kbit250 f s ms more few = omega (arith, more, few)
one_ms Kbit500 f s ms more few = omega (arith, more, few)
one_ms Mbit1 f s ms more few = omega (arith, more, few)

pub some_bits : (timing : Timing) (ms : ℕ) → 1 ≤ ms → 0 < bits_at_least timing ms
some_bits timing ms some =
    let few = timing.drift_range in
    greatest (ms * bits_per_ms timing.bitrate * shortest_million timing) (longest_million timing) 1
    (one_ms timing.bitrate (longest_million timing) (shortest_million timing) ms (mul-le-mul_right (shortest_million timing) some) (omega (arith, few)))
    (some_fast timing)

-- ---- what the bus's own milliseconds suffice for

behind_own : (bitrate : Bitrate) (f s ms a b : ℕ) → (a + ms * bits_per_ms bitrate) * f ≤ b * f → ms * s ≤ ms * f → 0 < f
    → a * bit_time bitrate * f + 1000 * ms * s < (b + 1) * bit_time bitrate * f
behind_own Kbit125 f s ms a b times less some = omega (arith, times, less, some)
behind_own Kbit250 f s ms a b times less some = omega (arith, times, less, some)
behind_own Kbit500 f s ms a b times less some = omega (arith, times, less, some)
behind_own Mbit1 f s ms a b times less some = omega (arith, times, less, some)

pub in_ms_behind : (timing : Timing) (ms a b : ℕ) → a + bits_of_ms timing ms ≤ b → IsMsBehind timing ms a b
in_ms_behind timing ms a b behind = behind_own timing.bitrate (longest_million timing) (shortest_million timing) ms a b
    (mul-le-mul_right (longest_million timing) behind)
    (mul-le-mul_left ms (let one = slower timing in let other = faster timing in omega (arith, one, other))) (some_fast timing)

within_own : (bitrate : Bitrate) (f s ms a b : ℕ) → b * s ≤ (a + ms * bits_per_ms bitrate) * s → ms * s ≤ ms * f → 0 < s
    → b * bit_time bitrate * s < (a + 1) * bit_time bitrate * s + 1000 * ms * f
within_own Kbit125 f s ms a b times less some = omega (arith, times, less, some)
within_own Kbit250 f s ms a b times less some = omega (arith, times, less, some)
within_own Kbit500 f s ms a b times less some = omega (arith, times, less, some)
within_own Mbit1 f s ms a b times less some = omega (arith, times, less, some)

pub in_unit_ms : (timing : Timing) (ms a b : ℕ) → b ≤ a + bits_of_ms timing ms → IsWithinUnitMs timing ms a b
in_unit_ms timing ms a b within = within_own timing.bitrate (longest_million timing) (shortest_million timing) ms a b
    (mul-le-mul_right (shortest_million timing) within)
    (mul-le-mul_left ms (let one = slower timing in let other = faster timing in omega (arith, one, other))) (some_slow timing)

-- what comes at once
pub at_once : (timing : Timing) (ms a : ℕ) → IsWithinUnitMs timing ms a a
at_once timing ms a = in_unit_ms timing ms a a (omega arith)

own_bits : (bitrate : Bitrate) (ms a b : ℕ) → b * bit_time bitrate ≤ a * bit_time bitrate + 1000 * ms → b ≤ a + ms * bits_per_ms bitrate
own_bits Kbit125 ms a b within = omega (arith, within)
own_bits Kbit250 ms a b within = omega (arith, within)
own_bits Kbit500 ms a b within = omega (arith, within)
own_bits Mbit1 ms a b within = omega (arith, within)

pub own_ms : (timing : Timing) (ms a b : ℕ) → b * bit_time timing.bitrate ≤ a * bit_time timing.bitrate + 1000 * ms → b ≤ a + bits_of_ms timing ms
own_ms timing ms a b within = own_bits timing.bitrate ms a b within

pub window_bits : (bitrate : Bitrate) (ms a b : ℕ) → b * bit_time bitrate < a * bit_time bitrate + 1000 * ms → b < a + ms * bits_per_ms bitrate
window_bits Kbit125 ms a b within = omega (arith, within)
window_bits Kbit250 ms a b within = omega (arith, within)
window_bits Kbit500 ms a b within = omega (arith, within)
window_bits Mbit1 ms a b within = omega (arith, within)

-- so many milliseconds later
pub later_micros : (bitrate : Bitrate) (ms a : ℕ) → (a + ms * bits_per_ms bitrate) * bit_time bitrate ≡ a * bit_time bitrate + 1000 * ms
later_micros Kbit125 ms a = omega arith
later_micros Kbit250 ms a = omega arith
later_micros Kbit500 ms a = omega arith
later_micros Mbit1 ms a = omega arith

pub some_own : (bitrate : Bitrate) (ms : ℕ) → 1 ≤ ms → 0 < ms * bits_per_ms bitrate
some_own Kbit125 ms some = omega (arith, some)
some_own Kbit250 ms some = omega (arith, some)
some_own Kbit500 ms some = omega (arith, some)
some_own Mbit1 ms some = omega (arith, some)

-- ---- windows of true time

some_time : (bitrate : Bitrate) (f : ℕ) → 0 < f → 0 < bit_time bitrate * f
some_time Kbit125 f some = omega (arith, some)
some_time Kbit250 f some = omega (arith, some)
some_time Kbit500 f some = omega (arith, some)
some_time Mbit1 f some = omega (arith, some)

pub window_apart : (timing : Timing) (ms a b : ℕ) → a * bit_time timing.bitrate * longest_million timing + 1000 * ms * million
    ≤ b * bit_time timing.bitrate * longest_million timing
    → a + bits_inside timing ms ≤ b
window_apart timing ms a b behind =
    let one = some_time timing.bitrate (longest_million timing) (some_fast timing) in
    let next : (b + 1) * bit_time timing.bitrate * longest_million timing
    ≡ b * bit_time timing.bitrate * longest_million timing + bit_time timing.bitrate * longest_million timing = grind arith in
    least_apart timing.bitrate (longest_million timing) million ms a b (omega (arith, behind, one, next))

-- ---- true time

pub stated_in_time : (timing : Timing) (bits : ℕ) → bits * bit_time timing.bitrate * longest_million timing ≤ us_of_bits timing bits * million
stated_in_time timing bits = (div_ceil_times (bits * bit_time timing.bitrate * longest_million timing) million (omega arith)).0

-- ---- clocks that agree

exact : (x f m : ℕ) → f ≡ m → 0 < m → x * m / f ≡ x
exact x f m same some = ap (λ (n : ℕ). x * m / n) same ∙ mul-div_cancel x some

exact_up : (x f m : ℕ) → f ≡ m → 0 < m → div_ceil (x * f) m ≡ x
exact_up x f m same some =
    let (low, high) = div_ceil_times (x * m) m some in
    ap (λ (n : ℕ). div_ceil (x * n) m) same ∙ one (div_ceil (x * m) m) low high
  where
    one : (q : ℕ) → x * m ≤ q * m → q * m < x * m + m → q ≡ x
    one q low high = elim (cases_lt q x) [
      | inl less ↦ absurd (let times : suc q * m ≤ x * m = mul-le-mul_right m less in omega (arith, times, low, some))
      | inr from ↦ elim (cases_lt x q) [
        | inl more ↦ absurd (let times : suc x * m ≤ q * m = mul-le-mul_right m more in omega (arith, times, high))
        | inr back ↦ omega (arith, from, back)
      ]
    ]

pub agreed_least : (timing : Timing) (ms : ℕ) → timing.drift ≡ 0 → bits_at_least timing ms ≡ bits_of_ms timing ms
agreed_least timing ms none =
    let slow : shortest_million timing ≡ million = omega (arith, none) in
    let fast : longest_million timing ≡ million = omega (arith, none) in
    ap (λ (n : ℕ). ms * bits_per_ms timing.bitrate * n / longest_million timing) slow ∙ exact (bits_of_ms timing ms) (longest_million timing) million fast
    (omega arith)

pub agreed_most : (timing : Timing) (ms : ℕ) → timing.drift ≡ 0 → bits_at_most timing ms ≡ bits_of_ms timing ms
agreed_most timing ms none =
    let slow : shortest_million timing ≡ million = omega (arith, none) in
    let fast : longest_million timing ≡ million = omega (arith, none) in
    ap (λ (n : ℕ). div_ceil (ms * bits_per_ms timing.bitrate * longest_million timing) n) slow ∙ exact_up (bits_of_ms timing ms)
    (longest_million timing) million fast (omega arith)

pub agreed_inside : (timing : Timing) (ms : ℕ) → timing.drift ≡ 0 → bits_inside timing ms ≡ bits_of_ms timing ms
agreed_inside timing ms none =
    let fast : longest_million timing ≡ million = omega (arith, none) in
    exact (bits_of_ms timing ms) (longest_million timing) million fast (omega arith)

pub agreed_stated : (timing : Timing) (bits : ℕ) → timing.drift ≡ 0 → us_of_bits timing bits ≡ bits * bit_time timing.bitrate
agreed_stated timing bits none =
    let fast : longest_million timing ≡ million = omega (arith, none) in
    exact_up (bits * bit_time timing.bitrate) (longest_million timing) million fast (omega arith)

pub agreed_rate : (x y f s m : ℕ) → f ≡ m → s ≡ m → 0 < m → 0 < y → div_ceil (x * f) (y * s) ≡ div_ceil x y
agreed_rate x y f s m fast slow some positive = ap (λ (n : ℕ). div_ceil (x * n) (y * s)) fast ∙ (ap (λ (n : ℕ). div_ceil (x * m) (y * n)) slow ∙ same)
  where
    some_more : 0 < y * m
    some_more = let more : 1 * m ≤ y * m = mul-le-mul_right m positive in omega (arith, more, some)

    same : div_ceil (x * m) (y * m) ≡ div_ceil x y
    same =
        let (low, _) = div_ceil_times x y positive in
        let (fits, _) = div_ceil_times (x * m) (y * m) some_more in
        let one = suffices (x * m) (y * m) (div_ceil x y) (
        let more : x * m ≤ div_ceil x y * y * m = mul-le-mul_right m low in
        let turned : div_ceil x y * (y * m) ≡ div_ceil x y * y * m = grind arith in
        omega (arith, more, turned)) some_more in
        let other = suffices x y (div_ceil (x * m) (y * m)) (
        let turned : div_ceil (x * m) (y * m) * (y * m) ≡ div_ceil (x * m) (y * m) * y * m = grind arith in
        elim (cases_lt (div_ceil (x * m) (y * m) * y) x) [
          | inr from ↦ from
          | inl less ↦ absurd (
              let more : suc (div_ceil (x * m) (y * m) * y) * m ≤ x * m = mul-le-mul_right m less in
              omega (arith, more, turned, fits, some))
        ]) positive in
        omega (arith, one, other)

pub agreed_second : (timing : Timing) (bits ms : ℕ) → timing.drift ≡ 0 → 1 ≤ ms → bits_a_second timing bits ms ≡ div_ceil (1000 * bits) ms
agreed_second timing bits ms none some = agreed_rate (1000 * bits) ms (longest_million timing) (shortest_million timing) million (omega (arith, none))
    (omega (arith, none))
    (omega arith) some

-- ---- few

few_bits : (bitrate : Bitrate) (ms : ℕ) → ms * bits_per_ms bitrate ≤ 1000 * ms
few_bits Kbit125 ms = omega arith
few_bits Kbit250 ms = omega arith
few_bits Kbit500 ms = omega arith
few_bits Mbit1 ms = omega arith

pub few_at_least : (timing : Timing) (ms : ℕ) → bits_at_least timing ms ≤ 1000 * ms
few_at_least timing ms = elim (cases_lt (1000 * ms) (bits_at_least timing ms)) [
  | inr from ↦ from
  | inl more ↦ absurd (
      let low = div-mul-le_self (bits_of_ms timing ms * shortest_million timing) (longest_million timing) in
      let times : suc (1000 * ms) * longest_million timing ≤ bits_at_least timing ms * longest_million timing = mul-le-mul_right
      (longest_million timing) more in
      let less : bits_of_ms timing ms * shortest_million timing ≤ bits_of_ms timing ms * longest_million timing =
      mul-le-mul_left (bits_of_ms timing ms) (let one = slower timing in let other = faster timing in omega (arith, one, other)) in
      let few : bits_of_ms timing ms * longest_million timing ≤ 1000 * ms * longest_million timing =
      mul-le-mul_right (longest_million timing) (few_bits timing.bitrate ms) in
      let some = some_fast timing in
      omega (arith, low, times, less, few, some))
]

pub few_at_most : (timing : Timing) (ms : ℕ) → bits_at_most timing ms ≤ 1050 * ms
few_at_most timing ms =
    let drift = timing.drift_range in
    let few : bits_of_ms timing ms * longest_million timing ≤ 1000 * ms * longest_million timing =
    mul-le-mul_right (longest_million timing) (few_bits timing.bitrate ms) in
    let ratio : 1000 * longest_million timing ≤ 1050 * shortest_million timing = omega (arith, drift) in
    let times : ms * (1000 * longest_million timing) ≤ ms * (1050 * shortest_million timing) = mul-le-mul_left ms ratio in
    let left : ms * (1000 * longest_million timing) ≡ 1000 * ms * longest_million timing = grind arith in
    let right : ms * (1050 * shortest_million timing) ≡ 1050 * ms * shortest_million timing = grind arith in
    suffices (bits_of_ms timing ms * longest_million timing) (shortest_million timing) (1050 * ms) (omega (arith, few, times, left, right)) (some_slow timing)

pub few_inside : (timing : Timing) (ms : ℕ) → bits_inside timing ms ≤ 1000 * ms
few_inside timing ms = elim (cases_lt (1000 * ms) (bits_inside timing ms)) [
  | inr from ↦ from
  | inl more ↦ absurd (
      let low = div-mul-le_self (bits_of_ms timing ms * million) (longest_million timing) in
      let times : suc (1000 * ms) * longest_million timing ≤ bits_inside timing ms * longest_million timing = mul-le-mul_right (longest_million timing) more in
      let less : bits_of_ms timing ms * million ≤ bits_of_ms timing ms * longest_million timing = mul-le-mul_left (bits_of_ms timing ms) (faster timing) in
      let few : bits_of_ms timing ms * longest_million timing ≤ 1000 * ms * longest_million timing =
      mul-le-mul_right (longest_million timing) (few_bits timing.bitrate ms) in
      let some = some_fast timing in
      omega (arith, low, times, less, few, some))
]

pub some_inside : (timing : Timing) (ms : ℕ) → 1 ≤ ms → 0 < bits_inside timing ms
some_inside timing ms some = let one = some_bits timing ms some in let more = least_inside timing ms in omega (arith, one, more)

short_bits : (bitrate : Bitrate) (bits : ℕ) → bits * bit_time bitrate ≤ 8 * bits
short_bits Kbit125 bits = omega arith
short_bits Kbit250 bits = omega arith
short_bits Kbit500 bits = omega arith
short_bits Mbit1 bits = omega arith

pub few_us : (timing : Timing) (bits : ℕ) → us_of_bits timing bits ≤ 9 * bits
few_us timing bits =
    let drift = timing.drift_range in
    let few : bits * bit_time timing.bitrate * longest_million timing ≤ 8 * bits * longest_million timing =
    mul-le-mul_right (longest_million timing) (short_bits timing.bitrate bits) in
    let ratio : 8 * longest_million timing ≤ 9 * million = omega (arith, drift) in
    let times : bits * (8 * longest_million timing) ≤ bits * (9 * million) = mul-le-mul_left bits ratio in
    let left : bits * (8 * longest_million timing) ≡ 8 * bits * longest_million timing = grind arith in
    suffices (bits * bit_time timing.bitrate * longest_million timing) million (9 * bits) (omega (arith, few, times, left)) (omega arith)

pub few_unit_ms : (timing : Timing) (ms : ℕ) → us_of_unit_ms timing ms ≤ 1050 * ms
few_unit_ms timing ms =
    let drift = timing.drift_range in
    let ratio : 1000 * longest_million timing ≤ 1050 * million = omega (arith, drift) in
    let times : ms * (1000 * longest_million timing) ≤ ms * (1050 * million) = mul-le-mul_left ms ratio in
    let left : ms * (1000 * longest_million timing) ≡ 1000 * ms * longest_million timing = grind arith in
    suffices (1000 * ms * longest_million timing) million (1050 * ms) (omega (arith, times, left)) (omega arith)

pub few_a_second : (timing : Timing) (bits ms : ℕ) → 1 ≤ ms → bits_a_second timing bits ms ≤ 1050 * bits
few_a_second timing bits ms some =
    let drift = timing.drift_range in
    let ratio : 1000 * longest_million timing ≤ 1050 * shortest_million timing = omega (arith, drift) in
    let more : 1 * shortest_million timing ≤ ms * shortest_million timing = mul-le-mul_right (shortest_million timing) some in
    let times : bits * (1000 * longest_million timing) ≤ bits * (1050 * (ms * shortest_million timing)) = mul-le-mul_left bits (omega (arith, ratio, more)) in
    let left : bits * (1000 * longest_million timing) ≡ 1000 * bits * longest_million timing = grind arith in
    let right : bits * (1050 * (ms * shortest_million timing)) ≡ 1050 * bits * (ms * shortest_million timing) = grind arith in
    let slow = some_slow timing in
    suffices (1000 * bits * longest_million timing) (ms * shortest_million timing) (1050 * bits) (omega (arith, times, left, right)) (omega (arith, more, slow))

-- ---- a time that is reported

inside_by : (bitrate : Bitrate) (f ms n : ℕ) → n * bit_time bitrate * f ≤ 1000 * ms * million → n * f ≤ ms * bits_per_ms bitrate * million
inside_by Kbit125 f ms n most = omega (arith, most)
inside_by Kbit250 f ms n most = omega (arith, most)
inside_by Kbit500 f ms n most = omega (arith, most)
inside_by Mbit1 f ms n most = omega (arith, most)

-- it is within so many milliseconds where its bits last no longer
pub reported_within : (timing : Timing) (bits ms : ℕ) → bits ≤ bits_inside timing ms → us_of_bits timing bits ≤ 1000 * ms
reported_within timing bits ms inside =
    let most = in_ms timing ms 0 bits (omega (arith, inside)) in
    suffices (bits * bit_time timing.bitrate * longest_million timing) million (1000 * ms) (omega (arith, most)) (omega arith)

-- and nowhere else
pub within_stated : (timing : Timing) (bits ms : ℕ) → us_of_bits timing bits ≤ 1000 * ms → bits ≤ bits_inside timing ms
within_stated timing bits ms stated =
    let low = stated_in_time timing bits in
    let more : us_of_bits timing bits * million ≤ 1000 * ms * million = mul-le-mul_right million stated in
    greatest (bits_of_ms timing ms * million) (longest_million timing) bits
    (inside_by timing.bitrate (longest_million timing) ms bits (omega (arith, low, more))) (some_fast timing)
