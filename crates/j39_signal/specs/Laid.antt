-- Payloads that are written signal after signal, from any that has their length.
use Rattle.std.specs.Prelude.{◌≡◌, ℕ, ◌*◌, ◌<◌, ◌≤◌, ◌⊎◌, ℤ, true, Option, Some, None, List, [], ◌∷◌, length, slice_index, slice_set, replicate, map, All}
use Rattle.std.specs.List.{HoldsAt}
use Rattle.j39_signal.specs.Bits.{bit, raw_of, all_ones, Put}
use Rattle.j39_signal.specs.declared.signal_parts.SignalParts.{SignalParts}
use Rattle.j39_signal.specs.Places.{Covers, IsInside, LaysOut, WidthFits}
use Rattle.j39_signal.specs.Selectors.{is_selected, selector_end}
use Rattle.j39_signal.specs.declared.selector.Selector.{Selector}
use Rattle.j39_signal.specs.State.{IsValue, IsRawOf, state_of, value_of}
use Rattle.j39_signal.specs.declared.kind.Kind.{Kind}
use Rattle.j39_signal.specs.declared.kind.Kind.TheVariants.{Measured, Discrete, Raw, States, Signed, Dtc}
use Rattle.j39_signal.specs.declared.state.State.{State}
use Rattle.j39_signal.specs.declared.state.State.TheVariants.{Value, Absent}

-- the payload is as long as the first one, has one of these raw numbers in each signal, and every bit of no signal as the first one has it
pub record Laid (start : List ℕ) (signals : List SignalParts) (raws : List ℕ) (payload : List ℕ) : Type 0 where
  pub same_length : length payload ≡ length start
  pub counted : length raws ≡ length signals
  pub held : (i : ℕ) → i < length signals → HoldsAt (λ s. raw_of payload s ≡ slice_index raws i) signals i
  pub free : (j : ℕ) → j < 8 * length start → All (λ s. ¬ Covers s j) signals → bit payload j ≡ bit start j

-- a write: the place of its signal, the raw number, and the payload after it
pub record Write : Type 0 where
  pub place : ℕ
  pub raw : ℕ
  pub payload : List ℕ

-- the raw number stands for a value, or gives the signal up
abbrev pub CanPut : SignalParts → ℕ → Type 0
CanPut s raw = IsValue s raw ⊎ (raw ≡ all_ones s)

-- the write leads on from this payload
abbrev pub IsWrittenFrom : List SignalParts → List ℕ → Write → Type 0
IsWrittenFrom signals old w = (w.place < length signals) × HoldsAt (λ s. CanPut s w.raw × Put s w.raw old w.payload) signals w.place

-- each write leads on from the payload before it
abbrev pub Chain : List SignalParts → List ℕ → List Write → Type 0
Chain signals payload [] = Unit {0}
Chain signals payload (w ∷ ws) = IsWrittenFrom signals payload w × Chain signals w.payload ws

-- the payload after the last write
abbrev pub last_payload : List ℕ → List Write → List ℕ
last_payload payload [] = payload
last_payload payload (w ∷ ws) = last_payload w.payload ws

-- the raw number last put for each signal
abbrev pub last_raws : List ℕ → List Write → List ℕ
last_raws raws [] = raws
last_raws raws (w ∷ ws) = last_raws (slice_set raws w.place w.raw) ws

-- what a signal reads that was given up: a raw one and a signed one have no state for that
abbrev pub given_up : Kind → ℤ → State
given_up Measured value = Absent
given_up Discrete value = Absent
given_up Raw value = Value value
given_up States value = Absent
given_up Signed value = Value value
given_up Dtc value = Absent

-- a payload in which every bit is 1, so that no signal is available
abbrev pub blank : ℕ → List ℕ
blank bytes = replicate bytes 255

-- the bit is one of the selector's
abbrev pub IsSelectorBit : Option Selector → ℕ → Type 0
IsSelectorBit None j = ⊥
IsSelectorBit (Some w) j = (w.start ≤ j) × (j < selector_end w)

-- a payload that the selector takes, in which every other bit is 1, so that no signal is available
pub record IsBlank (selector : Option Selector) (payload : List ℕ) : Type 0 where
  pub selected : is_selected selector payload ≡ true
  pub others : (j : ℕ) → j < 8 * length payload → ¬ IsSelectorBit selector j → bit payload j ≡ 1

-- ---- laws

-- every chain of writes that begins with this payload ends in one that holds the raw number last put for each signal, and its own where there
-- was none
abbrev pub KeepsWrites : List ℕ → List SignalParts → Type 0
KeepsWrites start signals = (writes : List Write) → Chain signals start writes
    → Laid start signals (last_raws (map (raw_of start) signals) writes) (last_payload start writes)

-- so it is with all signals that lay out a payload, whichever they begin with
abbrev pub LaidOutKeepWrites : Type 0
LaidOutKeepWrites = (start : List ℕ) (signals : List SignalParts) → LaysOut (length start) signals → KeepsWrites start signals

-- in a blank payload that no selector has a hand in each signal has all ones
abbrev pub BlanksAreOnes : Type 0
BlanksAreOnes = (payload : List ℕ) (s : SignalParts) → IsBlank None payload → IsInside (length payload) s → raw_of payload s ≡ all_ones s

-- the raw number of a value reads as that value
abbrev pub ValuesReadBack : Type 0
ValuesReadBack = (s : SignalParts) (value : ℤ) (raw : ℕ) → IsRawOf s value raw → state_of s raw ≡ Value value

-- all ones read as given up
abbrev pub AllOnesReadGivenUp : Type 0
AllOnesReadGivenUp = (s : SignalParts) → WidthFits s → state_of s (all_ones s) ≡ given_up s.kind (value_of s (all_ones s))
