-- Values that lie a whole number of steps from an offset.
use Rattle.std.proofs.Common.{◌≡◌, ◌≢◌, ℕ, zero, suc, ◌-◌, ◌*◌, ◌/◌, ◌%◌, ◌^◌, ◌<◌, ◌≤◌, true, false, inl, inr, sym, refl, ap, ◌∙◌, arith}
use Rattle.std.specs.Prelude.{ℤ, pos, neg_ℤ, ◌+ℤ◌, ◌-ℤ◌, ◌*ℤ◌, ◌<ℤ◌, ◌≤ℤ◌, unsigned_abs}
use Rattle.std.proofs.lemmas.Int.{ints, unsigned_abs-mul, by_lt_z}
use Rattle.std.proofs.Math.Nat.{pow-le-pow_right, mul-mod_right, mul-div_cancel_left, mul-zero}
use Rattle.std.proofs.lemmas.Nat.{div-add-mod', mul-le}
use Rattle.j39_signal.specs.declared.signal_parts.SignalParts.{SignalParts}
use Rattle.j39_signal.specs.State.{IsOnStep, IsRawOf, IsValue, is_negative, ranges_of, value_of, OthersCountUp}
use Rattle.j39_signal.specs.declared.kind.Kind.{Kind}
use Rattle.j39_signal.specs.declared.kind.Kind.TheVariants.{Measured, Discrete, Raw, States, Signed, Dtc}
use Rattle.std.proofs.lemmas.Bool.{cases_Bool}

-- what is left of a value after the offset
after_offset : (o d : ℤ) → o +ℤ d -ℤ o ≡ d
after_offset o d = omega (arith, ints)

-- the distance of a value on a step is a multiple of the step
distance_on_step : (v o : ℤ) (n : ℕ) (k : ℤ) → v ≡ o +ℤ pos n *ℤ k → unsigned_abs (v -ℤ o) ≡ n * unsigned_abs k
distance_on_step v o n k e =
    ap (λ z. unsigned_abs (z -ℤ o)) e ∙ ap unsigned_abs (after_offset o (pos n *ℤ k)) ∙ unsigned_abs-mul (pos n) k

pub off_step : (s : SignalParts) (v : ℤ) (d n : ℕ) → d ≡ unsigned_abs (v -ℤ s.offset) → n ≡ s.step → d % n ≢ 0 → ¬ IsOnStep s v
off_step s v d n is_distance is_step other (k, e) =
    other (rw (is_distance, is_step) (ap (λ d. d % s.step) (distance_on_step v s.offset s.step k e) ∙ mul-mod_right s.step (unsigned_abs k)))

-- a value from the offset on is the offset and the distance, another the offset less the distance
from_offset : (v o : ℤ) → o ≤ℤ v → v ≡ o +ℤ pos (unsigned_abs (v -ℤ o))
from_offset v o h = omega (arith, ints)

below_offset : (v o : ℤ) → v <ℤ o → v ≡ o +ℤ neg_ℤ (pos (unsigned_abs (v -ℤ o)))
below_offset v o h = omega (arith, ints)

neg-mul : (n q : ℕ) → neg_ℤ (pos (n * q)) ≡ pos n *ℤ neg_ℤ (pos q)
neg-mul n zero = rw mul-zero refl
neg-mul n (suc q) = refl

whole : (d n : ℕ) → d % n ≡ 0 → d ≡ n * (d / n)
whole d n h = omega (arith, div-add-mod' d n, h)

pub on_step : (s : SignalParts) (v : ℤ) (d n : ℕ) → d ≡ unsigned_abs (v -ℤ s.offset) → n ≡ s.step → d % n ≡ 0 → IsOnStep s v
on_step s v d n is_distance is_step none =
    let steps : unsigned_abs (v -ℤ s.offset) ≡ s.step * (d / n) =
    sym is_distance ∙ whole d n none ∙ ap (λ m. m * (d / n)) is_step
    in
    by_lt_z v s.offset
    (λ below. (
      neg_ℤ (pos (d / n)),
      below_offset v s.offset below ∙ ap (λ m. s.offset +ℤ neg_ℤ (pos m)) steps
          ∙ ap (λ z. s.offset +ℤ z) (neg-mul s.step (d / n)),
    ))
    (λ above. (pos (d / n), from_offset v s.offset above ∙ ap (λ m. s.offset +ℤ pos m) steps))

-- ---- what a value of a raw number is

pub value_up : (s : SignalParts) (r : ℕ) → is_negative s.kind s.bits r ≡ false → value_of s r ≡ s.offset +ℤ pos (s.step * r)
value_up s r up = rw up refl

pub value_down : (s : SignalParts) (r : ℕ) → is_negative s.kind s.bits r ≡ true → value_of s r ≡ s.offset -ℤ pos (s.step * (2 ^ s.bits - r))
value_down s r down = rw down refl

-- ---- the raw number of a value lies its distance in steps from the offset

steps_up : (s : SignalParts) (v : ℤ) (d n r : ℕ) → d ≡ unsigned_abs (v -ℤ s.offset) → n ≡ s.step → 0 < n
    → v ≡ s.offset +ℤ pos (s.step * r) → (s.offset ≤ℤ v) × (r ≡ d / n)
steps_up s v d n r is_distance is_step some e =
    let steps : d ≡ n * r = is_distance ∙ distance_on_step v s.offset s.step (pos r) e ∙ ap (λ m. m * r) (sym is_step) in
    (omega (arith, ints, e), sym (ap (λ m. m / n) steps ∙ mul-div_cancel_left r some))

below_by : (v o : ℤ) (k : ℕ) → v ≡ o -ℤ pos k → unsigned_abs (v -ℤ o) ≡ k
below_by v o k e = omega (arith, ints, e)

steps_down : (s : SignalParts) (v : ℤ) (d n r : ℕ) → d ≡ unsigned_abs (v -ℤ s.offset) → n ≡ s.step → 0 < n → 0 < r
    → v ≡ s.offset -ℤ pos (s.step * r) → (v <ℤ s.offset) × (r ≡ d / n)
steps_down s v d n r is_distance is_step some other e =
    let size : d ≡ s.step * r = is_distance ∙ below_by v s.offset (s.step * r) e in
    let steps : d ≡ n * r = size ∙ ap (λ m. m * r) (sym is_step) in
    let more : 1 * 1 ≤ s.step * r = mul-le 1 1 s.step r (omega arith) (omega arith) in
    (omega (arith, ints, e, more), sym (ap (λ m. m / n) steps ∙ mul-div_cancel_left r some))

-- a negative number is below 2 ^ bits
below_kind : (kind : Kind) (bits r : ℕ) → is_negative kind bits r ≡ true → r < (ranges_of kind bits).values → 0 < 2 ^ bits - r
below_kind Measured bits r down value = cc
below_kind Discrete bits r down value = cc
below_kind Raw bits r down value = cc
below_kind States bits r down value = cc
below_kind Signed bits r down value = omega arith
below_kind Dtc bits r down value = cc

below_width : (s : SignalParts) (r : ℕ) → is_negative s.kind s.bits r ≡ true → IsValue s r → 0 < 2 ^ s.bits - r
below_width s r down value = below_kind s.kind s.bits r down value

-- a number that lies so many steps from the offset is that of the value
pub raw_above : (s : SignalParts) (v : ℤ) (d n r : ℕ) → d ≡ unsigned_abs (v -ℤ s.offset) → n ≡ s.step → d % n ≡ 0 → s.offset ≤ℤ v
    → r ≡ d / n → IsValue s r → is_negative s.kind s.bits r ≡ false → IsRawOf s v r
raw_above s v d n r is_distance is_step none above is value up =
    let steps : unsigned_abs (v -ℤ s.offset) ≡ s.step * r = sym is_distance ∙ whole d n none ∙ ap (λ m. m * (d / n)) is_step ∙ ap (λ m. s.step * m) (sym is) in
    (value, value_up s r up ∙ sym (from_offset v s.offset above ∙ ap (λ m. s.offset +ℤ pos m) steps))

pub raw_below : (s : SignalParts) (v : ℤ) (d n r : ℕ) → d ≡ unsigned_abs (v -ℤ s.offset) → n ≡ s.step → d % n ≡ 0 → v <ℤ s.offset
    → 2 ^ s.bits - r ≡ d / n → IsValue s r → is_negative s.kind s.bits r ≡ true → IsRawOf s v r
raw_below s v d n r is_distance is_step none below is value down =
    let steps : unsigned_abs (v -ℤ s.offset) ≡ s.step * (2 ^ s.bits - r) =
    sym is_distance ∙ whole d n none ∙ ap (λ m. m * (d / n)) is_step ∙ ap (λ m. s.step * m) (sym is) in
    (value, value_down s r down ∙ sym (below_offset v s.offset below ∙ ap (λ m. s.offset +ℤ neg_ℤ (pos m)) steps))

-- where no number lies there, the value has none
pub none_above : (s : SignalParts) (v : ℤ) (d n : ℕ) → d ≡ unsigned_abs (v -ℤ s.offset) → n ≡ s.step → 0 < n → s.offset ≤ℤ v
    → ((r : ℕ) → IsValue s r → is_negative s.kind s.bits r ≡ false → r ≢ d / n) → (r : ℕ) → ¬ IsRawOf s v r
none_above s v d n is_distance is_step some above none r raw =
    elim (cases_Bool (is_negative s.kind s.bits r)) [
      | inl down ↦
          let is = steps_down s v d n (2 ^ s.bits - r) is_distance is_step some (below_width s r down raw.0) (sym raw.1 ∙ value_down s r down) in
          absurd (omega (arith, ints, above, is.0))
      | inr up ↦ none r raw.0 up (steps_up s v d n r is_distance is_step some (sym raw.1 ∙ value_up s r up)).1
    ]

pub none_below : (s : SignalParts) (v : ℤ) (d n : ℕ) → d ≡ unsigned_abs (v -ℤ s.offset) → n ≡ s.step → 0 < n → v <ℤ s.offset
    → ((r : ℕ) → IsValue s r → is_negative s.kind s.bits r ≡ true → 2 ^ s.bits - r ≢ d / n) → (r : ℕ) → ¬ IsRawOf s v r
none_below s v d n is_distance is_step some below none r raw =
    elim (cases_Bool (is_negative s.kind s.bits r)) [
      | inl down ↦ none r raw.0 down (steps_down s v d n (2 ^ s.bits - r) is_distance is_step some (below_width s r down raw.0)
          (sym raw.1 ∙ value_down s r down)).1
      | inr up ↦
          let is = steps_up s v d n r is_distance is_step some (sym raw.1 ∙ value_up s r up) in
          absurd (omega (arith, ints, below, is.0))
    ]

-- how far a raw number can take a value
pub steps_range : (n r : ℕ) → n ≤ 1000000 → r ≤ 4294967296 → n * r ≤ 4294967296000000
steps_range n r most range = omega (arith, mul-le n r 1000000 4294967296 most range)

-- a number of some bits takes two values or more
pub at_least_two : (k : ℕ) → 1 ≤ k → 2 ≤ 2 ^ k
at_least_two k h = pow-le-pow_right {n = 2} (omega arith) {i = 1} {j = k} h

-- a signal that isn't signed counts up
never_negative : (kind : Kind) (bits r : ℕ) → kind ≢ Signed → is_negative kind bits r ≡ false
never_negative Measured bits r other = refl
never_negative Discrete bits r other = refl
never_negative Raw bits r other = refl
never_negative States bits r other = refl
never_negative Signed bits r other = absurd (other refl)
never_negative Dtc bits r other = refl

pub others_count_up : OthersCountUp
others_count_up s r other = value_up s r (never_negative s.kind s.bits r other)
