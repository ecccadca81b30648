-- What signals read in messages, and when one of them reads what another read (SAE J1939-71, transmitted signal ranges).
use Rattle.std.specs.Prelude.{◌≡◌, ℕ, ◌*◌, ◌<◌, ◌⊎◌, ℤ, pos, ◌-ℤ◌, ◌*ℤ◌, ◌<ℤ◌, unsigned_abs, Bool, false, if◌then◌else◌, List, length}
use Rattle.j39_signal.specs.Bits.{raw_of}
use Rattle.j39_signal.specs.declared.signal_parts.SignalParts.{SignalParts}
use Rattle.j39_signal.specs.Places.{is_inside}
use Rattle.j39_signal.specs.State.{IsRawOf, state_of}
use Rattle.j39_signal.specs.declared.state.State.{State}
use Rattle.j39_signal.specs.declared.state.State.TheVariants.{Value, Absent}
use Rattle.j39_network.specs.SoundSignals.{unset_state}
use Rattle.j39_vehicle_findings.specs.Matching.{first_value, last_value}
use Rattle.j39_vehicle_laws.specs.HandedOn.{AreOneValue}

-- what a signal reads in a message: one that doesn't end within the message is absent
abbrev pub reading : SignalParts → List ℕ → State
reading s bytes = if is_inside (length bytes) s then state_of s (raw_of bytes s) else Absent

abbrev pub HasNoValue : State → Type 0
HasNoValue state = (value : ℤ) → ¬ (state ≡ Value value)

-- ---- values of two signals

-- the value a of s is one of t's
abbrev pub IsValueOf : SignalParts → ℤ → SignalParts → Type 0
IsValueOf s a t = (b : ℤ) × (raw : ℕ) × IsRawOf t b raw × AreOneValue s a t b

-- the value b of t lies less than a step of t away from the value a of s
abbrev pub IsStepAway : SignalParts → ℤ → SignalParts → ℤ → Type 0
IsStepAway s a t b = unsigned_abs (a *ℤ pos t.per -ℤ b *ℤ pos s.per) < t.step * s.per

-- it is the first of t's values, and that of s lies below, or the last, and that of s lies above
abbrev pub IsFirstAbove : SignalParts → ℤ → SignalParts → ℤ → Type 0
IsFirstAbove s a t b = (b ≡ first_value t) × ((a *ℤ pos t.per) <ℤ (b *ℤ pos s.per))

abbrev pub IsLastBelow : SignalParts → ℤ → SignalParts → ℤ → Type 0
IsLastBelow s a t b = (b ≡ last_value t) × ((b *ℤ pos s.per) <ℤ (a *ℤ pos t.per))

-- it stands for a value that t hasn't
abbrev pub StandsFor : SignalParts → ℤ → SignalParts → ℤ → Type 0
StandsFor s a t b = (¬ IsValueOf s a t) × (IsStepAway s a t b ⊎ (IsFirstAbove s a t b ⊎ IsLastBelow s a t b))

-- ---- what a gateway may let a signal read

-- t reads the value that s reads in these bytes, or where t hasn't it one that stands for it
abbrev pub ReadsValueOf : SignalParts → List ℕ → SignalParts → State → Type 0
ReadsValueOf s before t to =
    (a : ℤ) × (b : ℤ) × (reading s before ≡ Value a) × (to ≡ Value b) × (AreOneValue s a t b ⊎ StandsFor s a t b)

-- it reads it, or where it needn't be exact one that stands for it
abbrev pub ReadsOver : SignalParts → List ℕ → SignalParts → Bool → State → Type 0
ReadsOver s before t exact to =
    (a : ℤ) × (b : ℤ) × (reading s before ≡ Value a) × (to ≡ Value b) × (AreOneValue s a t b ⊎ ((exact ≡ false) × StandsFor s a t b))

-- t reads no value, or, where it needn't be exact, what it reads when it is given up
abbrev pub IsUnset : SignalParts → Bool → State → Type 0
IsUnset t exact to = HasNoValue to ⊎ ((exact ≡ false) × (to ≡ unset_state t))
