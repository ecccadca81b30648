-- What it is good for that one signal has another one: it has each of its values; and values of several signals, one after another.
use Rattle.std.specs.Prelude.{◌≡◌, ℕ, ◌≤◌, ℤ}
use Rattle.j39_signal.specs.declared.signal_parts.SignalParts.{SignalParts}
use Rattle.j39_signal.specs.State.{state_of}
use Rattle.j39_signal.specs.declared.state.State.TheVariants.{Value}
use Rattle.j39_vehicle_findings.specs.Matching.{CanStandFor}
use Rattle.j39_vehicle_laws.specs.HandedOn.{AreOneValue}
use Rattle.j39_vehicle_laws.specs.Reading.{IsValueOf}

-- each value of s is one of t's
abbrev pub HasEachValue : SignalParts → SignalParts → Type 0
HasEachValue s t = (raw : ℕ) (a : ℤ) → state_of s raw ≡ Value a → IsValueOf s a t

-- so it is where the tests say that t has s
abbrev pub HavingIsOfValues : Type 0
HavingIsOfValues = (s t : SignalParts) → CanStandFor s t → HasEachValue s t

-- what is one value with a second, and this with a third one, is one with the third
abbrev pub OneValueIsPassedOn : Type 0
OneValueIsPassedOn = (s t u : SignalParts) (a b c : ℤ) → 1 ≤ t.per → AreOneValue s a t b → AreOneValue t b u c → AreOneValue s a u c
