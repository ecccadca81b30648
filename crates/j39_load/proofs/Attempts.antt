-- How many bits a damaged attempt takes; and where no more of them begin in a window than are reported, of one more in a row the last begins this
-- window behind the first.
use Rattle.std.proofs.Common.{ℕ, zero, suc, ◌+◌, ◌*◌, ◌<◌, ◌≤◌, cond, arith, inl, inr}
use Rattle.std.proofs.Math.Nat.{mul-le-mul_right}
use Rattle.std.proofs.lemmas.Bool.{cases_Bool, cases_lt, le-ltb, lt-ltb}
use Rattle.j39_network.specs.declared.plan.timing.Timing.{Timing}
use Rattle.j39_load.specs.Clocks.{bit_time, longest_million, million}
use Rattle.j39_load.specs.KeepsErrors.{attempts_within, begins_within}
use Rattle.j39_load.specs.Loads.{bits_inside}
use Rattle.j39_load.proofs.Milliseconds.{window_apart}
use Rattle.j39_timing.specs.Errors.{Damaged, IsBusWithErrors}
use Rattle.j39_timing.specs.Sums.{total}
use Rattle.j39_timing.specs.TimedFrames.{Schedule}

-- a sum of which so many places in a row have 1 at least is no less than their number
in_a_row : (n e k : ℕ) (f : ℕ → ℕ) → e + k ≤ n → ((i : ℕ) → e ≤ i → i < e + k → 1 ≤ f i) → k ≤ total n f
unfolding total
in_a_row zero e k f inside ones = omega (arith, inside)
in_a_row (suc n) e zero f inside ones = omega arith
in_a_row (suc n) e (suc k) f inside ones = elim (cases_lt n (e + suc k)) [
  | inl last ↦
      let before : k ≤ total n f = in_a_row n e k f (omega (arith, inside)) (λ i from below. ones i from (omega (arith, below))) in
      let one : 1 ≤ f n = ones n (omega (arith, inside, last)) last in
      omega (arith, before, one)
  | inr short ↦
      let before : suc k ≤ total n f = in_a_row n e (suc k) f short ones in
      omega (arith, before)
]

-- of a frame that is sent again or one that is left half sent, an attempt takes no more bits than a frame of eight bytes
pub attempt_few : (s : Schedule) (d : Damaged) → IsBusWithErrors s d → ((p : ℕ) → p < s.count → s.bits p ≤ 160) → (e : ℕ) → e < d.count → d.sent e ≤ 160
attempt_few s d bus short e below = elim (cases_Bool (d.lost e)) [
  | inl lost ↦ let few = bus.lost_at_most e below lost in omega (arith, few)
  | inr sent_again ↦
      let few = bus.sent_at_most e below sent_again in
      let frame = short (d.frame e) (bus.known e below sent_again) in
      omega (arith, few, frame)
]

module _ (timing : Timing) (ms many : ℕ) (d : Damaged) (in_order : (e f : ℕ) → e ≤ f → f < d.count → d.begin e ≤ d.begin f)
    (seldom : (from : ℕ) → attempts_within timing ms d from ≤ many) (e : ℕ) (below : e + many < d.count) where
  abbrev micros : ℕ → ℕ
  micros f = d.begin f * bit_time timing.bitrate * longest_million timing

  counts : micros (e + many) < micros e + 1000 * ms * million
      → (i : ℕ) → e ≤ i → i < e + suc many → 1 ≤ cond (begins_within timing ms d (d.begin e) i) 1 0
  counts near i from before =
      let first = in_order e i from (omega (arith, before, below)) in
      let last : micros i ≤ micros (e + many) =
      mul-le-mul_right (longest_million timing) (mul-le-mul_right (bit_time timing.bitrate) (in_order i (e + many) (omega (arith, before)) below)) in
      rw (le-ltb (d.begin i) (d.begin e) first, lt-ltb (micros i) (micros e + 1000 * ms * million) (omega (arith, last, near))) (omega arith)

  pub a_window_apart : d.begin e + bits_inside timing ms ≤ d.begin (e + many)
  a_window_apart = elim (cases_lt (micros (e + many)) (micros e + 1000 * ms * million)) [
    | inr apart ↦ window_apart timing ms (d.begin e) (d.begin (e + many)) apart
    | inl near ↦ absurd (
        let few = seldom (d.begin e) in
        let more : suc many ≤ attempts_within timing ms d (d.begin e) =
        in_a_row d.count e (suc many) (λ f. cond (begins_within timing ms d (d.begin e) f) 1 0) (omega (arith, below)) (counts near) in
        omega (arith, few, more))
  ]
