-- Requests that ask for no more than a flow's period lets: the sum of fractions that is found, as laws of schedules have it.
use Rattle.std.proofs.Common.{◌≡◌, ℕ, zero, suc, ◌+◌, ◌*◌, ◌<◌, ◌≤◌, false, ltb, List, [], ◌∷◌, length, get_or, refl, sym, ap, ◌∙◌, arith, inl, inr}
use Rattle.std.proofs.Math.Nat.{mul-le-mul_left, mul-le-mul_right, div-mul-le_self}
use Rattle.std.proofs.lemmas.Bool.{both_ways, cases_lt, lt-ltb}
use Rattle.j39_network.specs.declared.plan.timing.Bitrate.{Bitrate}
use Rattle.j39_network.specs.declared.plan.timing.Bitrate.TheVariants.{Kbit125, Kbit250, Kbit500, Mbit1}
use Rattle.j39_network.specs.declared.plan.timing.Timing.{Timing}
use Rattle.j39_load.specs.AskedFlows.{asked_parts, is_more_than_one, whole_parts}
use Rattle.j39_load.specs.AskingTimes.{bit_parts, ms_parts, requesters_each}
use Rattle.j39_load.specs.Clocks.{bit_time, longest_million, shortest_million}
use Rattle.j39_load.specs.Loads.{bits_at_least, bits_per_ms}
use Rattle.j39_timing.specs.AnsweredRequests.{AskNoOftenerThan}
use Rattle.j39_timing.specs.Sums.{total}

-- ---- sums

-- the first value before the others
total-front : (n : ℕ) (f : ℕ → ℕ) → total (suc n) f ≡ f 0 + total n (λ i. f (suc i))
unfolding total
total-front zero f = omega arith
total-front (suc n) f = let before = total-front n f in omega (arith, before)

scaled : (n a : ℕ) (f : ℕ → ℕ) → total n (λ i. a * f i) ≡ a * total n f
unfolding total
scaled zero a f = omega arith
scaled (suc n) a f =
    let before = scaled n a f in
    let all : a * (total n f + f n) ≡ a * total n f + a * f n = grind arith in
    omega (arith, before, all)

-- ---- fractions

-- the product of all periods but that at a place
others : List ℕ → ℕ → ℕ
others [] i = 0
others (every ∷ periods) zero = whole_parts periods
others (every ∷ periods) (suc i) = every * others periods i

each_part : (periods : List ℕ) (i : ℕ) → i < length periods → whole_parts periods ≡ others periods i * get_or periods i 1
unfolding whole_parts others
each_part [] i below = absurd (omega (arith, below))
each_part (every ∷ periods) zero below = grind arith
each_part (every ∷ periods) (suc i) below =
    let rest = each_part periods i (omega (arith, below)) in
    let turned : every * others periods i * get_or periods i 1 ≡ every * (others periods i * get_or periods i 1) = grind arith in
    ap (λ (n : ℕ). every * n) rest ∙ sym turned

all_parts : (period : ℕ) (periods : List ℕ) → asked_parts period periods ≡ period * total (length periods) (others periods)
unfolding asked_parts others total
all_parts period [] = omega arith
all_parts period (every ∷ periods) =
    let rest = all_parts period periods in
    let front = total-front (length periods) (others (every ∷ periods)) in
    let scale = scaled (length periods) every (others periods) in
    let sum : total (suc (length periods)) (others (every ∷ periods)) ≡ whole_parts periods + every * total (length periods) (others periods) =
    omega (arith, front, scale) in
    let times : period * (whole_parts periods + every * total (length periods) (others periods))
    ≡ period * whole_parts periods + every * (period * total (length periods) (others periods)) = grind arith in
    let both : every * asked_parts period periods ≡ every * (period * total (length periods) (others periods)) = ap (λ (n : ℕ). every * n) rest in
    let whole : period * total (suc (length periods)) (others (every ∷ periods))
    ≡ period * (whole_parts periods + every * total (length periods) (others periods)) = ap (λ (n : ℕ). period * n) sum in
    omega (arith, times, both, whole)

-- ---- clocks

module _ (timing : Timing) where
  pub ask_no_oftener : (period : ℕ) (periods : List ℕ) → 0 < whole_parts periods → 0 < shortest_million timing → is_more_than_one period periods ≡ false
      → AskNoOftenerThan (requesters_each timing periods) (ms_parts timing period)
  ask_no_oftener period periods some slow no_more = record {
    whole = 1000 * shortest_million timing * whole_parts periods;
    part = others periods;
    positive = (let one : 1 * 1 ≤ shortest_million timing * whole_parts periods = both slow some in
        let turned : 1000 * shortest_million timing * whole_parts periods ≡ 1000 * (shortest_million timing * whole_parts periods) = grind arith in
        omega (arith, one, turned));
    parts = λ r below.
        let its = each_part periods r below in
        let scale : 1000 * shortest_million timing * whole_parts periods ≡ 1000 * shortest_million timing * (others periods r * get_or periods r 1) =
        ap (λ (n : ℕ). 1000 * shortest_million timing * n) its in
        let turned : others periods r * (1000 * get_or periods r 1 * shortest_million timing)
        ≡ 1000 * shortest_million timing * (others periods r * get_or periods r 1) = grind arith in
        omega (arith, scale, turned);
    sum =
        (let sum = all_parts period periods in
        let few : asked_parts period periods ≤ whole_parts periods = elim (cases_lt (whole_parts periods) (asked_parts period periods)) [
          | inr within ↦ within
          | inl more ↦ absurd (both_ways (ltb (whole_parts periods) (asked_parts period periods)) no_more
              (lt-ltb (whole_parts periods) (asked_parts period periods) more))
        ] in
        let scale : 1000 * shortest_million timing * asked_parts period periods ≤ 1000 * shortest_million timing * whole_parts periods =
        mul-le-mul_left (1000 * shortest_million timing) few in
        let same : 1000 * shortest_million timing * asked_parts period periods
        ≡ 1000 * shortest_million timing * (period * total (length periods) (others periods)) = ap (λ (n : ℕ). 1000 * shortest_million timing * n) sum in
        let turned : 1000 * period * shortest_million timing * total (length periods) (others periods)
        ≡ 1000 * shortest_million timing * (period * total (length periods) (others periods)) = grind arith in
        omega (arith, scale, same, turned));
  }
    where
      both : {a b : ℕ} → 0 < a → 0 < b → 1 * 1 ≤ a * b
      both {a} {b} one other =
          let less : 1 * b ≤ a * b = mul-le-mul_right b one in
          omega (arith, less, other)

  -- a period in bits is no longer than by these parts
  bits_of_thousand : (bitrate : Bitrate) → bits_per_ms bitrate * bit_time bitrate ≡ 1000
  bits_of_thousand Kbit125 = refl
  bits_of_thousand Kbit250 = refl
  bits_of_thousand Kbit500 = refl
  bits_of_thousand Mbit1 = refl

  pub period_in_parts : (ms : ℕ) → bits_at_least timing ms * bit_parts timing ≤ ms_parts timing ms
  period_in_parts ms =
      let n : ℕ = ms * bits_per_ms timing.bitrate * shortest_million timing in
      let whole : bits_at_least timing ms * longest_million timing ≤ ms * bits_per_ms timing.bitrate * shortest_million timing =
      div-mul-le_self (ms * bits_per_ms timing.bitrate * shortest_million timing) (longest_million timing) in
      let times : bits_at_least timing ms * longest_million timing * bit_time timing.bitrate
      ≤ ms * bits_per_ms timing.bitrate * shortest_million timing * bit_time timing.bitrate = mul-le-mul_right (bit_time timing.bitrate) whole in
      let left : bits_at_least timing ms * (bit_time timing.bitrate * longest_million timing)
      ≡ bits_at_least timing ms * longest_million timing * bit_time timing.bitrate = grind arith in
      let right : ms * bits_per_ms timing.bitrate * shortest_million timing * bit_time timing.bitrate
      ≡ ms * shortest_million timing * (bits_per_ms timing.bitrate * bit_time timing.bitrate) = grind arith in
      let thousand : ms * shortest_million timing * (bits_per_ms timing.bitrate * bit_time timing.bitrate) ≡ ms * shortest_million timing * 1000 =
      ap (λ (k : ℕ). ms * shortest_million timing * k) (bits_of_thousand timing.bitrate) in
      let all : ms * shortest_million timing * 1000 ≡ 1000 * ms * shortest_million timing = grind arith in
      omega (arith, times, left, right, thousand, all)
