-- What comes of damage in a long time.
use Rattle.std.proofs.Common.{◌≡◌, ℕ, zero, suc, ◌+◌, ◌*◌, ◌<◌, ◌≤◌, true, false, not, cond, ltb}
use Rattle.std.proofs.Common.{refl, sym, subst, ap, ◌∙◌, inl, inr, arith}
use Rattle.std.proofs.lemmas.Bool.{and_from, and_parts, both_ways, cases_Bool, cases_lt, lt-ltb, ltb-true}
use Rattle.std.proofs.Math.Nat.{mul-le-mul_left, mul-le-mul_right}
use Rattle.std.proofs.lemmas.Grind.{div_ceil_times}
use Rattle.std.specs.Int.{div_ceil}
use Rattle.j39_network.specs.declared.plan.timing.Bitrate.{Bitrate}
use Rattle.j39_network.specs.declared.plan.timing.Bitrate.TheVariants.{Kbit125, Kbit250, Kbit500, Mbit1}
use Rattle.j39_network.specs.declared.plan.timing.Timing.{Timing}
use Rattle.j39_load.specs.KeepsErrors.{attempts_within, begins_within}
use Rattle.j39_load.specs.Loads.{bits_of_ms}
use Rattle.j39_load.specs.LongRuns.{is_begun_within, seconds}
use Rattle.j39_load.specs.Clocks.{bit_time, longest_million, million}
use Rattle.j39_load.proofs.LongRuns.Frames.{isnt}
use Rattle.j39_load.proofs.LongRuns.Streams.{slots_rate}
use Rattle.j39_load.proofs.Milliseconds.{later_micros}
use Rattle.j39_timing.specs.Errors.{Damaged}
use Rattle.j39_timing.specs.Sums.{total}
use Rattle.j39_timing.proofs.Sums.{total-le, total-none, total-two}
use Rattle.j39_load.proofs.LongRuns.Frames.{isnt}

pub not_before : (x from : ℕ) → not (ltb x from) ≡ true → from ≤ x
not_before x from is = elim (cases_lt x from) [
  | inl less ↦ absurd (both_ways (ltb x from) (isnt (ltb x from) is) (lt-ltb x from less))
  | inr not_less ↦ not_less
]

module _ (timing : Timing) (d : Damaged) where
  -- how many begin in so many milliseconds of the bus's own clock
  abbrev pub attempts_in : ℕ → ℕ → ℕ
  attempts_in ms from = total d.count (λ e. cond (is_begun_within timing ms d from e) 1 0)

  -- where it is exact they begin in as much true time
  pub in_true_time : timing.drift ≡ 0 → (ms from : ℕ) → attempts_in ms from ≤ attempts_within timing ms d from
  in_true_time agree ms from = total-le d.count (λ e. cond (is_begun_within timing ms d from e) 1 0) (λ e. cond (begins_within timing ms d from e) 1 0)
      (λ e below.
      elim (cases_Bool (is_begun_within timing ms d from e)) [
        | inr fails ↦ rw (fails) (omega arith)
        | inl is ↦
            let two = and_parts (not (ltb (d.begin e) from)) (ltb (d.begin e * bit_time timing.bitrate) (from * bit_time timing.bitrate + 1000 * ms)) is in
            let high = ltb-true (d.begin e * bit_time timing.bitrate) (from * bit_time timing.bitrate + 1000 * ms) two.1 in
            let there : begins_within timing ms d from e ≡ true =
            and_from (not (ltb (d.begin e) from))
            (ltb (d.begin e * bit_time timing.bitrate * longest_million timing)
            (from * bit_time timing.bitrate * longest_million timing + 1000 * ms * million)) two.0
            (lt-ltb (d.begin e * bit_time timing.bitrate * longest_million timing)
            (from * bit_time timing.bitrate * longest_million timing + 1000 * ms * million)
            (by_million (d.begin e * bit_time timing.bitrate) (from * bit_time timing.bitrate) (1000 * ms) (longest_million timing)
            (omega (arith, agree)) high)) in
            rw (is, there) (omega arith)
      ])
    where
      by_million : (x y z m : ℕ) → m ≡ million → x < y + z → x * m < y * m + z * million
      by_million x y z m same less = subst (λ (k : ℕ). x * k < y * k + z * million) (sym same) (omega (arith, less))

  -- attempts of one time are of its first part or of what is left
  in_two : (ms rest from : ℕ) → attempts_in (ms + rest) from
      ≤ attempts_in ms from + attempts_in rest (from + bits_of_ms timing ms)
  in_two ms rest from = total-two d.count (λ e. cond (is_begun_within timing (ms + rest) d from e) 1 0) (λ e. cond (is_begun_within timing ms d from e) 1 0)
      (λ e. cond (is_begun_within timing rest d (from + bits_of_ms timing ms) e) 1 0) (λ e below.
      elim (cases_Bool (is_begun_within timing (ms + rest) d from e)) [
        | inr fails ↦ rw (fails) (omega arith)
        | inl is ↦
            let two = and_parts (not (ltb (d.begin e) from))
            (ltb (d.begin e * bit_time timing.bitrate) (from * bit_time timing.bitrate + 1000 * (ms + rest))) is in
            let high = ltb-true (d.begin e * bit_time timing.bitrate) (from * bit_time timing.bitrate + 1000 * (ms + rest)) two.1 in
            let last = later_micros timing.bitrate ms from in
            elim (cases_lt (d.begin e * bit_time timing.bitrate) (from * bit_time timing.bitrate + 1000 * ms)) [
              | inl first ↦
                  let here : is_begun_within timing ms d from e ≡ true =
                  and_from (not (ltb (d.begin e) from)) (ltb (d.begin e * bit_time timing.bitrate) (from * bit_time timing.bitrate + 1000 * ms)) two.0
                  (lt-ltb (d.begin e * bit_time timing.bitrate) (from * bit_time timing.bitrate + 1000 * ms) first) in
                  rw (is, here) (omega arith)
              | inr second ↦
                  let from_there : from + bits_of_ms timing ms ≤ d.begin e = elim (cases_lt (d.begin e) (from + bits_of_ms timing ms)) [
                    | inr not_less ↦ not_less
                    | inl less ↦ absurd (
                        let before : suc (d.begin e) * bit_time timing.bitrate ≤ (from + bits_of_ms timing ms) * bit_time timing.bitrate =
                        mul-le-mul_right (bit_time timing.bitrate) less in
                        let one = some_time timing.bitrate in
                        let next : suc (d.begin e) * bit_time timing.bitrate ≡ d.begin e * bit_time timing.bitrate + bit_time timing.bitrate = grind arith in
                        omega (arith, before, second, last, one, next))
                  ] in
                  let there : is_begun_within timing rest d (from + bits_of_ms timing ms) e ≡ true =
                  and_from (not (ltb (d.begin e) (from + bits_of_ms timing ms)))
                  (ltb (d.begin e * bit_time timing.bitrate) ((from + bits_of_ms timing ms) * bit_time timing.bitrate + 1000 * rest))
                  (ap not (not_ltb (d.begin e) (from + bits_of_ms timing ms) from_there))
                  (lt-ltb (d.begin e * bit_time timing.bitrate) ((from + bits_of_ms timing ms) * bit_time timing.bitrate + 1000 * rest)
                  (omega (arith, high, last))) in
                  rw (is, there) (omega arith)
            ]
      ])
    where
      some_time : (bitrate : Bitrate) → 1 ≤ bit_time bitrate
      some_time Kbit125 = omega arith
      some_time Kbit250 = omega arith
      some_time Kbit500 = omega arith
      some_time Mbit1 = omega arith

      not_ltb : (x y : ℕ) → y ≤ x → ltb x y ≡ false
      not_ltb x y from = elim (cases_Bool (ltb x y)) [
        | inr fails ↦ fails
        | inl is ↦ absurd (let less = ltb-true x y is in omega (arith, less, from))
      ]

  module _ (every many : ℕ) (seldom : (from : ℕ) → attempts_in every from ≤ many) where
    -- in so many windows
    in_windows : (k from : ℕ) → attempts_in (k * every) from ≤ k * many
    in_windows zero from =
        let none : attempts_in 0 from ≡ 0 = total-none d.count (λ e. cond (is_begun_within timing 0 d from e) 1 0) (λ e below.
        elim (cases_Bool (is_begun_within timing 0 d from e)) [
          | inr fails ↦ rw (fails) refl
          | inl is ↦ absurd (
              let two = and_parts (not (ltb (d.begin e) from)) (ltb (d.begin e * bit_time timing.bitrate) (from * bit_time timing.bitrate + 0)) is in
              let high = ltb-true (d.begin e * bit_time timing.bitrate) (from * bit_time timing.bitrate + 0) two.1 in
              let low : from ≤ d.begin e = not_before (d.begin e) from two.0 in
              let times : from * bit_time timing.bitrate ≤ d.begin e * bit_time timing.bitrate = mul-le-mul_right (bit_time timing.bitrate) low in
              omega (arith, high, times))
        ]) in
        let zero_every : 0 * every ≡ 0 = omega arith in
        let same : attempts_in (0 * every) from ≡ attempts_in 0 from =
        ap (λ (x : ℕ). attempts_in x from) zero_every in
        omega (arith, none, same)
    in_windows (suc k) from =
        let two = in_two every (k * every) from in
        let first = seldom from in
        let rest = in_windows k (from + bits_of_ms timing every) in
        let same : suc k * every ≡ every + k * every = grind arith in
        let whole : attempts_in (suc k * every) from ≡ attempts_in (every + k * every) from =
        ap (λ (x : ℕ). attempts_in x from) same in
        let times : suc k * many ≡ many + k * many = grind arith in
        omega (arith, two, first, rest, whole, times)

    -- in a longer time are no fewer
    in_longer : (ms longer from : ℕ) → ms ≤ longer → attempts_in ms from ≤ attempts_in longer from
    in_longer ms longer from less = total-le d.count (λ e. cond (is_begun_within timing ms d from e) 1 0)
        (λ e. cond (is_begun_within timing longer d from e) 1 0) (λ e below.
        elim (cases_Bool (is_begun_within timing ms d from e)) [
          | inr fails ↦ rw (fails) (omega arith)
          | inl is ↦
              let two = and_parts (not (ltb (d.begin e) from)) (ltb (d.begin e * bit_time timing.bitrate) (from * bit_time timing.bitrate + 1000 * ms)) is in
              let high = ltb-true (d.begin e * bit_time timing.bitrate) (from * bit_time timing.bitrate + 1000 * ms) two.1 in
              let there : is_begun_within timing longer d from e ≡ true =
              and_from (not (ltb (d.begin e) from)) (ltb (d.begin e * bit_time timing.bitrate) (from * bit_time timing.bitrate + 1000 * longer)) two.0
              (lt-ltb (d.begin e * bit_time timing.bitrate) (from * bit_time timing.bitrate + 1000 * longer) (omega (arith, high, less))) in
              rw (is, there) (omega arith)
        ])

    -- and of so many bits each
    pub damage_rate : (bits n from : ℕ) → 1 ≤ every → bits * attempts_in (seconds n) from
        ≤ n * div_ceil (1000 * (many * bits)) every + many * bits
    damage_rate bits n from some =
        let (low, _) = div_ceil_times (seconds n + 0) every some in
        let longer = in_longer (seconds n) (div_ceil (seconds n + 0) every * every) from (omega (arith, low)) in
        let windows = in_windows (div_ceil (seconds n + 0) every) from in
        let times : bits * attempts_in (seconds n) from
        ≤ bits * (div_ceil (seconds n + 0) every * many) = mul-le-mul_left bits (omega (arith, longer, windows)) in
        let (rated, _) = div_ceil_times (1000 * (many * bits)) every some in
        let each : n * (1000 * (many * bits)) ≤ n * (div_ceil (1000 * (many * bits)) every * every) = mul-le-mul_left n rated in
        let left : many * bits * seconds n ≡ n * (1000 * (many * bits)) = grind arith in
        let right : n * div_ceil (1000 * (many * bits)) every * every ≡ n * (div_ceil (1000 * (many * bits)) every * every) = grind arith in
        let slots = slots_rate (many * bits) (seconds n) every 0 (n * div_ceil (1000 * (many * bits)) every) some (omega (arith, each, left, right)) in
        let turned : bits * (div_ceil (seconds n + 0) every * many) ≡ many * bits * div_ceil (seconds n + 0) every = grind arith in
        let none : div_ceil 0 every ≡ 0 = no_slots every in
        let once : many * bits * (1 + div_ceil 0 every) ≡ many * bits = ap (λ (x : ℕ). many * bits * (1 + x)) none ∙ grind arith in
        omega (arith, times, slots, turned, once)
      where
        no_slots : (x : ℕ) → div_ceil 0 x ≡ 0
        no_slots x = omega arith
