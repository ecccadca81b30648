-- Each value of a signal is its first one and so many steps; and what the tests of two signals say of that.
use Rattle.std.proofs.Common.{◌≡◌, ℕ, suc, ◌+◌, ◌-◌, ◌*◌, ◌^◌, ◌%◌, ◌/◌, ◌<◌, ◌≤◌, ◌⊎◌, Bool, true, false, if◌then◌else◌, nat_le, nat_lt, inl, inr, sym, refl}
use Rattle.std.proofs.Common.{ap, ◌∙◌, arith}
use Rattle.std.specs.Prelude.{ℤ, pos, ◌+ℤ◌, ◌*ℤ◌}
use Rattle.std.proofs.lemmas.Int.{ints}
use Rattle.std.proofs.Math.Nat.{mul_comm, pow-le-pow_right, two-pow-succ}
use Rattle.std.proofs.lemmas.Nat.{pow_pos}
use Rattle.std.proofs.lemmas.Bool.{and_parts, eqb-true}
use Rattle.std.proofs.lemmas.Bool.Decides.{Decides-eqb, Decides-ltb, leb_tells}
use Rattle.j39_signal.specs.declared.signal_parts.SignalParts.{SignalParts}
use Rattle.j39_signal.specs.Places.{WidthFits, width_fits}
use Rattle.j39_signal.specs.State.{IsRawOf, Ranges, is_negative, ranges_of, state_in, state_of, value_of}
use Rattle.j39_signal.specs.declared.kind.Kind.{Kind}
use Rattle.j39_signal.specs.declared.kind.Kind.TheVariants.{Measured, Discrete, Raw, States, Signed, Dtc}
use Rattle.j39_signal.specs.declared.state.State.{State}
use Rattle.j39_signal.specs.declared.state.State.TheVariants.{Value, Specific, Reserved, Fault, Absent}
use Rattle.j39_signal.proofs.Steps.{value_down, value_up}
use Rattle.j39_vehicle_findings.specs.Matching.{first_value, has_value, last_value, steps_above, steps_below}
use Rattle.j39_vehicle_laws.specs.Values.{HavingIsOfValues, OneValueIsPassedOn}
use Rattle.j39_vehicle_laws.proofs.Multiples.{one_factor, plus_times, times_times}
use Rattle.j39_vehicle_laws.proofs.Indexes.{at_most, index_between, index_of, whole}

-- ---- what is one value

swap_times : (a : ℤ) (m n : ℕ) → (a *ℤ pos m) *ℤ pos n ≡ (a *ℤ pos n) *ℤ pos m
swap_times a m n = times_times a m n ∙ ap (λ k. a *ℤ pos k) (mul_comm m n) ∙ sym (times_times a n m)

pub one_value_passes : OneValueIsPassedOn
one_value_passes s t u a b c some first second =
    let left : (a *ℤ pos u.per) *ℤ pos t.per ≡ (b *ℤ pos s.per) *ℤ pos u.per =
    swap_times a u.per t.per ∙ ap (λ z. z *ℤ pos u.per) first in
    let right : (c *ℤ pos s.per) *ℤ pos t.per ≡ (b *ℤ pos s.per) *ℤ pos u.per =
    swap_times c s.per t.per ∙ ap (λ z. z *ℤ pos s.per) (sym second) ∙ swap_times b u.per s.per in
    one_factor (a *ℤ pos u.per) (c *ℤ pos s.per) t.per some (left ∙ sym right)

-- ---- what reads as a value

-- the first of these states whose test holds
picked : Bool → Bool → Bool → Bool → ℤ → ℕ → State
picked in_values in_specific in_reserved in_faults value raw =
    if in_values then Value value
    else if in_specific then Specific raw
    else if in_reserved then Reserved raw
    else if in_faults then Fault raw
    else Absent

value_picked : (in_values in_specific in_reserved in_faults : Bool) (value a : ℤ) (raw : ℕ)
    → picked in_values in_specific in_reserved in_faults value raw ≡ Value a → (in_values ≡ true) × (value ≡ a)
unfolding picked
value_picked true in_specific in_reserved in_faults value a raw is = (refl, cc)
value_picked false true in_reserved in_faults value a raw is = absurd cc
value_picked false false true in_faults value a raw is = absurd cc
value_picked false false false true value a raw is = absurd cc
value_picked false false false false value a raw is = absurd cc

-- the number is in the range of values, and its value is this one
value_in : (r : Ranges) (value a : ℤ) (raw : ℕ) → state_in r value raw ≡ Value a → (raw < r.values) × (value ≡ a)
unfolding picked
value_in r value a raw is =
    let parts = value_picked (nat_lt raw r.values) (nat_lt raw r.specific) (nat_lt raw r.reserved) (nat_lt raw r.faults) value a raw is in
    ((Decides-ltb raw r.values).0 parts.0, parts.1)

-- ---- each value by its index from the first

-- the index of the last value of a signal
abbrev pub last_index : Kind → ℕ → ℕ
last_index kind bits = steps_below kind bits + (steps_above kind bits - 1)

last_is : (s : SignalParts) → last_value s ≡ first_value s +ℤ pos (s.step * last_index s.kind s.bits)
last_is s =
    let parts : s.step * last_index s.kind s.bits ≡ s.step * steps_below s.kind s.bits + s.step * (steps_above s.kind s.bits - 1) = omega arith in
    omega (arith, ints, parts)

-- the raw number stands at this index: those that are negative stand first
abbrev IsIndex : Kind → ℕ → ℕ → ℕ → Type 0
IsIndex kind bits raw i = ((is_negative kind bits raw ≡ false) × (i ≡ steps_below kind bits + raw))
    ⊎ ((is_negative kind bits raw ≡ true) × (i + (2 ^ bits - raw) ≡ steps_below kind bits))

halves : (bits : ℕ) → 2 ≤ bits → 2 ^ bits ≡ 2 ^ (bits - 1) + 2 ^ (bits - 1)
halves bits some =
    let less : bits ≡ suc (bits - 1) = omega arith in
    ap (λ n. 2 ^ n) less ∙ two-pow-succ (bits - 1)

signed_width : (start bits : ℕ) → width_fits Signed start bits ≡ true → 2 ≤ bits
signed_width start bits fits = at_most 2 bits (and_parts _ _ fits).0

index_in : (kind : Kind) (start bits raw : ℕ) → width_fits kind start bits ≡ true → raw < (ranges_of kind bits).values
    → (i : ℕ) × (i ≤ last_index kind bits) × IsIndex kind bits raw i
index_in Measured start bits raw fits less = (raw, omega arith, inl (refl, omega arith))
index_in Discrete start bits raw fits less = (raw, omega arith, inl (refl, omega arith))
index_in Raw start bits raw fits less = (raw, omega arith, inl (refl, omega arith))
index_in States start bits raw fits less = (raw, omega arith, inl (refl, omega arith))
index_in Dtc start bits raw fits less = (raw, omega arith, inl (refl, omega arith))
index_in Signed start bits raw fits less =
    let both = halves bits (signed_width start bits fits) in
    elim (leb_tells (2 ^ (bits - 1)) raw) [
      | inl (holds, from) ↦ (raw - 2 ^ (bits - 1), omega (arith, both), inr (holds, omega (arith, both)))
      | inr (fails, under) ↦ (2 ^ (bits - 1) + raw, omega (arith, both), inl (fails, refl))
    ]

times_sum : (n a b : ℕ) → n * (a + b) ≡ n * a + n * b
times_sum n a b = omega arith

-- its value is the first one and so many steps
value_by_index : (s : SignalParts) (raw i : ℕ) → IsIndex s.kind s.bits raw i → value_of s raw ≡ first_value s +ℤ pos (s.step * i)
value_by_index s raw i (inl (up, at)) =
    let parts : s.step * i ≡ s.step * steps_below s.kind s.bits + s.step * raw = ap (λ n. s.step * n) at ∙ times_sum s.step (steps_below s.kind s.bits) raw in
    value_up s raw up ∙ omega (arith, ints, parts)
value_by_index s raw i (inr (down, at)) =
    let parts : s.step * i + s.step * (2 ^ s.bits - raw) ≡ s.step * steps_below s.kind s.bits =
    sym (times_sum s.step i (2 ^ s.bits - raw)) ∙ ap (λ n. s.step * n) at in
    value_down s raw down ∙ omega (arith, ints, parts)

index_of_value : (s : SignalParts) → WidthFits s → (raw : ℕ) (a : ℤ) → state_of s raw ≡ Value a
    → (i : ℕ) × (i ≤ last_index s.kind s.bits) × (a ≡ first_value s +ℤ pos (s.step * i))
index_of_value s fits raw a is =
    let value = value_in (ranges_of s.kind s.bits) (value_of s raw) a raw is in
    let (i, most, at) = index_in s.kind s.start s.bits raw fits value.0 in
    (i, most, sym value.1 ∙ value_by_index s raw i at)

above : (n m : ℕ) → m < n → nat_le n m ≡ false
above n m less = elim (leb_tells n m) [ inl (holds, most) ↦ absurd (omega (arith, less, most)) | inr (fails, more) ↦ fails ]

pub within : (n m : ℕ) → n ≤ m → nat_le n m ≡ true
within n m most = elim (leb_tells n m) [ inl (holds, same) ↦ holds | inr (fails, more) ↦ absurd (omega (arith, most, more)) ]

raw_in : (kind : Kind) (start bits i : ℕ) → width_fits kind start bits ≡ true → i ≤ last_index kind bits
    → (raw : ℕ) × (raw < (ranges_of kind bits).values) × IsIndex kind bits raw i
raw_in Measured start bits i fits most = (i, omega (arith, pow_pos (bits - 8)), inl (refl, omega arith))
raw_in Discrete start bits i fits most = (i, omega arith, inl (refl, omega arith))
raw_in Raw start bits i fits most = (i, omega (arith, pow_pos bits), inl (refl, omega arith))
raw_in States start bits i fits most =
    let some : 2 ≤ bits = at_most 2 bits (and_parts _ _ fits).0 in
    (i, omega (arith, pow-le-pow_right {n = 2} (omega arith) {i = 2} {j = bits} some), inl (refl, omega arith))
raw_in Dtc start bits i fits most =
    let all : bits ≡ 32 = eqb-true bits 32 (and_parts _ _ fits).0 in
    let some : 1 ≤ bits = omega (arith, all) in
    (i, omega (arith, pow-le-pow_right {n = 2} (omega arith) {i = 1} {j = bits} some), inl (refl, omega arith))
raw_in Signed start bits i fits most =
    let both = halves bits (signed_width start bits fits) in
    let some = pow_pos (bits - 1) in
    elim (leb_tells (2 ^ (bits - 1)) i) [
      | inl (holds, from) ↦
          let less : i - 2 ^ (bits - 1) < 2 ^ (bits - 1) = omega (arith, some, most) in
          (i - 2 ^ (bits - 1), omega (arith, both, less), inl (above (2 ^ (bits - 1)) (i - 2 ^ (bits - 1)) less, omega (arith, from)))
      | inr (fails, under) ↦
          (2 ^ (bits - 1) + i, omega (arith, both, under), inr (within (2 ^ (bits - 1)) (2 ^ (bits - 1) + i) (omega arith), omega (arith, both, under)))
    ]

value_at_index : (s : SignalParts) → WidthFits s → (i : ℕ) → i ≤ last_index s.kind s.bits → (raw : ℕ) × IsRawOf s (first_value s +ℤ pos (s.step * i)) raw
value_at_index s fits i most =
    let (raw, less, at) = raw_in s.kind s.start s.bits i fits most in
    (raw, (less, value_by_index s raw i at))

-- ---- what the tests say

turn : (a b c : ℕ) → a * b * c ≡ a * c * b
turn a b c = omega arith

-- x / per is the value of t at an index
has_index : (t : SignalParts) (x : ℤ) (per : ℕ) → has_value t x per ≡ true
    → (j : ℕ) × (j ≤ last_index t.kind t.bits) × (x *ℤ pos t.per ≡ first_value t *ℤ pos per +ℤ pos (t.step * per * j))
has_index t x per is =
    let below = steps_below t.kind t.bits in
    let (j, most, at) = index_of (x *ℤ pos t.per) (t.offset *ℤ pos per) (t.step * per) below (steps_above t.kind t.bits) is in
    let offset : t.offset ≡ first_value t +ℤ pos (t.step * below) = omega (arith, ints) in
    let offset_times : t.offset *ℤ pos per ≡ first_value t *ℤ pos per +ℤ pos (t.step * below * per) =
    ap (λ z. z *ℤ pos per) offset ∙ plus_times (first_value t) (t.step * below) per in
    let same : t.step * below * per ≡ t.step * per * below = omega arith in
    (j, most, omega (arith, ints, at, offset_times, same))

pub each_value : HavingIsOfValues
each_value s t has raw a is =
    let size = t.step * s.per in
    let m = s.step * t.per / size in
    let ns = last_index s.kind s.bits in
    let tests = and_parts _ _ has.values in
    let more = and_parts _ _ tests.1 in
    let (jf, first_most, first_at) = has_index t (first_value s) s.per tests.0 in
    let (jl, last_most, last_at) = has_index t (last_value s) s.per more.0 in
    let (i, most, at) = index_of_value s has.s_width raw a is in
    let steps : s.step * t.per ≡ size * m = whole (s.step * t.per) size ((Decides-eqb (s.step * t.per % size) 0).0 more.1) in
    let last : last_value s *ℤ pos t.per ≡ first_value s *ℤ pos t.per +ℤ pos (s.step * ns * t.per) =
    ap (λ z. z *ℤ pos t.per) (last_is s) ∙ plus_times (first_value s) (s.step * ns) t.per in
    let all : s.step * ns * t.per ≡ size * m * ns = turn s.step ns t.per ∙ ap (λ n. n * ns) steps in
    let same : size * jf + size * m * ns ≡ size * jl = omega (arith, ints, first_at, last_at, last, all) in
    let (j, j_most, j_at) = index_between size m jf jl (last_index t.kind t.bits) ns i most last_most first_most same in
    let (raw_there, is_raw) = value_at_index t has.t_width j j_most in
    let here : a *ℤ pos t.per ≡ first_value s *ℤ pos t.per +ℤ pos (s.step * i * t.per) =
    ap (λ z. z *ℤ pos t.per) at ∙ plus_times (first_value s) (s.step * i) t.per in
    let there : (first_value t +ℤ pos (t.step * j)) *ℤ pos s.per ≡ first_value t *ℤ pos s.per +ℤ pos (t.step * j * s.per) =
    plus_times (first_value t) (t.step * j) s.per in
    let here_steps : s.step * i * t.per ≡ size * m * i = turn s.step i t.per ∙ ap (λ n. n * i) steps in
    let there_steps : t.step * j * s.per ≡ size * j = turn t.step j s.per in
    (first_value t +ℤ pos (t.step * j), raw_there, is_raw, omega (arith, ints, here, there, here_steps, there_steps, first_at, j_at))
