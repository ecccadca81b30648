-- When what one signal says can stand in another one: signals that agree, that are alike, and values that both have (SAE J1939-71).
use Rattle.std.specs.Prelude.{◌≡◌, ℕ, ◌-◌, ◌*◌, ◌/◌, ◌%◌, ◌^◌, ◌⊎◌, ◌↔◌, ℤ, pos, ◌+ℤ◌, ◌-ℤ◌, ◌*ℤ◌, unsigned_abs, int_lt, List, [], Bool, true, ◌&&◌, ◌==◌}
use Rattle.std.specs.Prelude.{nat_le, nat_lt, if◌then◌else◌, Option, None}
use Rattle.j39_signal.specs.declared.signal_parts.SignalParts.{SignalParts}
use Rattle.j39_signal.specs.Places.{WidthFits}
use Rattle.j39_signal.specs.State.{ranges_of}
use Rattle.j39_signal.specs.declared.kind.Kind.{Kind}
use Rattle.j39_signal.specs.declared.kind.Kind.TheVariants.{Raw, Signed, Dtc}

-- the same bits, read the same way
pub record Agree (s t : SignalParts) : Type 0 where
  pub start : s.start ≡ t.start
  pub bits : s.bits ≡ t.bits
  pub kind : s.kind ≡ t.kind
  pub step : s.step ≡ t.step
  pub offset : s.offset ≡ t.offset
  pub per : s.per ≡ t.per
  pub repeated : s.repeated ≡ t.repeated

-- ---- alike

-- the same, as far as both are there
abbrev pub AreSameUnits : List ℕ → List ℕ → Type 0
AreSameUnits a b = (a ≡ []) ⊎ ((b ≡ []) ⊎ (a ≡ b))

abbrev pub AreSameNumbers : Option ℕ → Option ℕ → Type 0
AreSameNumbers a b = (a ≡ None) ⊎ ((b ≡ None) ⊎ (a ≡ b))

-- both are trouble codes, or neither is
abbrev pub AreBothCodes : Kind → Kind → Type 0
AreBothCodes a b = (a ≡ Dtc) ↔ (b ≡ Dtc)

-- they mean the same, as far as it is reported by their units of measurement, their numbers of SAE J1939 (SPN), and their kinds
pub record AreAlike (s : SignalParts) (s_number : Option ℕ) (t : SignalParts) (t_number : Option ℕ) : Type 0 where
  pub units : AreSameUnits s.unit.bytes t.unit.bytes
  pub numbers : AreSameNumbers s_number t_number
  pub codes : AreBothCodes s.kind t.kind

-- ---- values

-- the values of a signal are (offset + step * k) / per, for each k from so many below 0 on
abbrev pub steps_below : Kind → ℕ → ℕ
steps_below Signed bits = 2 ^ (bits - 1)
steps_below _ bits = 0

-- and below so many from 0 up
abbrev pub steps_above : Kind → ℕ → ℕ
steps_above Signed bits = 2 ^ (bits - 1)
steps_above kind bits = (ranges_of kind bits).values

-- the first value of a signal, and the last
abbrev pub first_value : SignalParts → ℤ
first_value s = s.offset -ℤ pos (s.step * steps_below s.kind s.bits)

abbrev pub last_value : SignalParts → ℤ
last_value s = s.offset +ℤ pos (s.step * (steps_above s.kind s.bits - 1))

-- so much is a whole number of steps of this size, down or up, and one that the signal has
abbrev pub is_on_steps : SignalParts → ℕ → Bool → ℕ → Bool
is_on_steps t size is_down distance = distance % size == 0
    && (if is_down then nat_le (distance / size) (steps_below t.kind t.bits) else nat_lt (distance / size) (steps_above t.kind t.bits))

-- x / per is a value of the signal, by its distance from the offset, where both are multiplied by what they are divided by
abbrev pub has_value : SignalParts → ℤ → ℕ → Bool
has_value t x per =
    is_on_steps t (t.step * per) (int_lt (x *ℤ pos t.per) (t.offset *ℤ pos per)) (unsigned_abs (x *ℤ pos t.per -ℤ t.offset *ℤ pos per))

-- each value of s is one of t: the first and the last one are, and steps of s are whole steps of t
abbrev pub has_values_of : SignalParts → SignalParts → Bool
has_values_of s t = has_value t (first_value s) s.per && (has_value t (last_value s) s.per && s.step * t.per % (t.step * s.per) == 0)

-- a signal of this kind reads as a value whatever its bits are
abbrev pub IsAlwaysValue : Kind → Type 0
IsAlwaysValue kind = (kind ≡ Raw) ⊎ (kind ≡ Signed)

-- s may have nothing that could be written into such a signal: a fault, no value, or no bits at all
abbrev pub MayBeUnset : SignalParts → Type 0
MayBeUnset s = (¬ IsAlwaysValue s.kind) ⊎ (s.optional ≡ true)

-- t has s: whatever s says as a value, t can say
pub record CanStandFor (s t : SignalParts) : Type 0 where
  pub s_width : WidthFits s
  pub t_width : WidthFits t
  pub unset : ¬ (IsAlwaysValue t.kind × MayBeUnset s)
  pub values : has_values_of s t ≡ true
