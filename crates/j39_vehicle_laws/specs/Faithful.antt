-- What gateways keep of the messages that they send on.
use Rattle.std.specs.Prelude.{◌≡◌, ℕ, ◌⊎◌, ℤ, List, Option, Some, None}
use Rattle.std.specs.List.{slice_get}
use Rattle.std.specs.Option.{option_and_then}
use Rattle.j39_signal.specs.declared.signal_parts.SignalParts.{SignalParts}
use Rattle.j39_signal.specs.declared.state.State.{State}
use Rattle.j39_signal.specs.declared.state.State.TheVariants.{Value}
use Rattle.j39_network.specs.declared.plan.group_plan.GroupPlan.{GroupPlan}
use Rattle.j39_vehicle.specs.declared.vehicle.Vehicle.{Vehicle}
use Rattle.j39_vehicle.specs.declared.vehicle.forward.Forward.{Forward}
use Rattle.j39_vehicle.specs.declared.vehicle.forward.ForwardedSignal.{ForwardedSignal}
use Rattle.j39_vehicle.specs.declared.vehicle.places.GroupAt.{GroupAt}
use Rattle.j39_vehicle_findings.specs.Buses.{group_at}
use Rattle.j39_vehicle_findings.specs.ForwardEnds.{Copies, listed}
use Rattle.j39_vehicle_laws.specs.HandedOn.{AreOneValue}
use Rattle.j39_vehicle_laws.specs.Reading.{HasNoValue, IsUnset, IsValueOf, ReadsValueOf, reading}

-- the signal at a place of a group
abbrev pub signal_of : Vehicle → GroupAt → ℕ → Option SignalParts
signal_of v g i = option_and_then (λ (group : GroupPlan). slice_get group.signals.items i) (group_at v.buses.items g)

-- a copy has the bytes of the message that it carries; where it carries none, no signal reads a value in it
abbrev pub IsCopy : Vehicle → Forward → Option (List ℕ) → List ℕ → Type 0
IsCopy v n (Some before) bytes = bytes ≡ before
IsCopy v n None bytes = (i : ℕ) (t : SignalParts) → signal_of v n.output i ≡ Some t → HasNoValue (reading t bytes)

-- what a signal reads into which another one goes: in a message that carries one the value that this other one reads there, or no value
abbrev pub IsTakenFrom : Vehicle → Forward → ForwardedSignal → Option (List ℕ) → SignalParts → State → Type 0
IsTakenFrom v n f (Some before) t to = IsUnset t f.exact to ⊎ ((s : SignalParts) × (signal_of v n.input f.read ≡ Some s) × ReadsValueOf s before t to)
IsTakenFrom v n f None t to = IsUnset t f.exact to

-- what a message of an output keeps of the one of the input that it carries, or of none: in a copy the bytes, else what is read by each signal
-- that one of the input's goes into
pub record KeepsContents (v : Vehicle) (n : Forward) (carried : Option (List ℕ)) (bytes : List ℕ) : Type 0 where
  pub copied : Copies n → IsCopy v n carried bytes
  pub taken : (k : ℕ) (f : ForwardedSignal) (t : SignalParts) → slice_get (listed n) k ≡ Some f → signal_of v n.output f.written ≡ Some t
      → IsTakenFrom v n f carried t (reading t bytes)

-- it passes values on: where a signal that goes into another one reads a value in the message that is carried, and this other one has that value,
-- it reads it. A copy does so by its bytes
abbrev pub PassesValues : Vehicle → Forward → List ℕ → List ℕ → Type 0
PassesValues v n before bytes = (k : ℕ) (f : ForwardedSignal) (s t : SignalParts) (a : ℤ) → slice_get (listed n) k ≡ Some f
    → signal_of v n.input f.read ≡ Some s → signal_of v n.output f.written ≡ Some t → reading s before ≡ Value a → IsValueOf s a t
    → (b : ℤ) × (reading t bytes ≡ Value b) × AreOneValue s a t b
