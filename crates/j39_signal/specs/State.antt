-- What a raw number means (SAE J1939-71, transmitted signal ranges).
use Rattle.std.specs.Prelude.{◌≡◌, ◌≢◌, ℕ, ◌-◌, ◌*◌, ◌^◌, ◌<◌, ℤ, pos, ◌+ℤ◌, ◌-ℤ◌, ◌*ℤ◌, Bool, false, nat_le, nat_lt, if◌then◌else◌, List, length}
use Rattle.j39_signal.specs.Bits.{Put, raw_of}
use Rattle.j39_signal.specs.declared.signal_parts.SignalParts.{SignalParts}
use Rattle.j39_signal.specs.Places.{is_there, IsThere}
use Rattle.j39_signal.specs.declared.kind.Kind.{Kind}
use Rattle.j39_signal.specs.declared.kind.Kind.TheVariants.{Measured, Discrete, Raw, States, Signed, Dtc}
use Rattle.j39_signal.specs.declared.state.Shown.{Shown}
use Rattle.j39_signal.specs.declared.state.State.{State}
use Rattle.j39_signal.specs.declared.state.State.TheVariants.{Value, Specific, Reserved, Fault, Absent}
use Rattle.j39_signal.specs.declared.write_error.WriteError.{WriteError}
use Rattle.j39_signal.specs.declared.write_error.WriteError.TheVariants.{NotOnStep, OutOfRange, NotThere}

-- where the ranges of a kind and a width end: the first raw number after the values, after the specific ones,
-- after the reserved ones and after those of a fault
pub record Ranges : Type 0 where
  pub values : ℕ
  pub specific : ℕ
  pub reserved : ℕ
  pub faults : ℕ

-- a measured signal shows its state in its top byte: a value up to FA, FB, FC and FD, FE, FF; of states the number whose bits
-- are all 1 is absence, and the one below it a fault
abbrev pub ranges_of : Kind → ℕ → Ranges
ranges_of Measured bits = record {
  values = 251 * 2 ^ (bits - 8);
  specific = 252 * 2 ^ (bits - 8);
  reserved = 254 * 2 ^ (bits - 8);
  faults = 255 * 2 ^ (bits - 8);
}
ranges_of Discrete bits = record { values = 2; specific = 2; reserved = 2; faults = 3 }
ranges_of Raw bits = record { values = 2 ^ bits; specific = 2 ^ bits; reserved = 2 ^ bits; faults = 2 ^ bits }
ranges_of States bits = record { values = 2 ^ bits - 2; specific = 2 ^ bits - 2; reserved = 2 ^ bits - 2; faults = 2 ^ bits - 1 }
ranges_of Signed bits = record { values = 2 ^ bits; specific = 2 ^ bits; reserved = 2 ^ bits; faults = 2 ^ bits }
ranges_of Dtc bits = record { values = 2 ^ bits - 1; specific = 2 ^ bits - 1; reserved = 2 ^ bits - 1; faults = 2 ^ bits - 1 }

-- the raw number stands for a negative one: in two's complement its highest bit is 1
abbrev pub is_negative : Kind → ℕ → ℕ → Bool
is_negative Signed bits raw = nat_le (2 ^ (bits - 1)) raw
is_negative _ bits raw = false

-- the value of a raw number; a negative one is itself less 2 ^ bits
abbrev pub value_of : SignalParts → ℕ → ℤ
value_of s raw =
    if is_negative s.kind s.bits raw then s.offset -ℤ pos (s.step * (2 ^ s.bits - raw)) else s.offset +ℤ pos (s.step * raw)

-- the state of a raw number, by the range that it lies in
abbrev pub state_in : Ranges → ℤ → ℕ → State
state_in ranges value raw =
    if nat_lt raw ranges.values then Value value
    else if nat_lt raw ranges.specific then Specific raw
    else if nat_lt raw ranges.reserved then Reserved raw
    else if nat_lt raw ranges.faults then Fault raw
    else Absent

abbrev pub state_of : SignalParts → ℕ → State
state_of s raw = state_in (ranges_of s.kind s.bits) (value_of s raw) raw

-- what a signal reads in a payload: one that isn't there is absent
abbrev pub state_in_payload : List ℕ → SignalParts → State
state_in_payload payload s = if is_there (length payload) s then state_of s (raw_of payload s) else Absent

-- a raw number with what it means, and the value that it has whatever its state
abbrev pub shown_of : SignalParts → ℕ → Shown
shown_of s raw = record { raw = raw; value = value_of s raw; state = state_of s raw }

-- the raw number stands for a value
abbrev pub IsValue : SignalParts → ℕ → Type 0
IsValue s raw = raw < (ranges_of s.kind s.bits).values

-- the raw number that stands for this value
abbrev pub IsRawOf : SignalParts → ℤ → ℕ → Type 0
IsRawOf s value raw = IsValue s raw × (value_of s raw ≡ value)

-- the new payload is the old one with the raw number of this value put into the signal
abbrev pub WritesValue : SignalParts → ℤ → List ℕ → List ℕ → Type 0
WritesValue s value old new = (raw : ℕ) × IsRawOf s value raw × Put s raw old new

-- the value lies a whole number of steps from the offset
abbrev pub IsOnStep : SignalParts → ℤ → Type 0
IsOnStep s value = (k : ℤ) × (value ≡ s.offset +ℤ pos s.step *ℤ k)

-- the value is refused: it isn't on a step, or it is, and no raw number stands for it
abbrev pub RefusesValue : SignalParts → ℤ → WriteError → Type 0
RefusesValue s value NotOnStep = ¬ IsOnStep s value
RefusesValue s value OutOfRange = IsOnStep s value × ((raw : ℕ) → ¬ IsRawOf s value raw)
RefusesValue s value NotThere = ⊥

-- so it is in a payload of so many bytes, where the signal has to be there at all
abbrev pub RefusesWrite : ℕ → SignalParts → ℤ → WriteError → Type 0
RefusesWrite bytes s value NotThere = ¬ IsThere bytes s
RefusesWrite bytes s value e = IsThere bytes s × RefusesValue s value e

-- ---- laws

-- a signal of any kind but a signed one counts its values up from the offset
abbrev pub OthersCountUp : Type 0
OthersCountUp = (s : SignalParts) (raw : ℕ) → s.kind ≢ Signed → value_of s raw ≡ s.offset +ℤ pos (s.step * raw)
