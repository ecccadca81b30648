-- What a message carries, forward by forward along its trace, back to the unit that sent it first.
use Rattle.std.specs.Prelude.{◌≡◌, ℕ, ◌⊎◌, ◌==◌, Bool, true, Option, Some, None}
use Rattle.std.specs.List.{slice_get, position}
use Rattle.std.specs.Option.{option_and_then, option_map_or}
use Rattle.j39_signal.specs.declared.signal_parts.SignalParts.{SignalParts}
use Rattle.j39_network.specs.declared.plan.flow_plan.FlowPlan.{FlowPlan}
use Rattle.j39_world.specs.World.{World}
use Rattle.j39_vehicle.specs.declared.vehicle.Vehicle.{Vehicle}
use Rattle.j39_vehicle.specs.declared.vehicle.forward.Forward.{Forward}
use Rattle.j39_vehicle.specs.declared.vehicle.forward.ForwardedSignal.{ForwardedSignal}
use Rattle.j39_vehicle.specs.declared.vehicle.places.GroupAt.{GroupAt}
use Rattle.j39_vehicle_findings.specs.ForwardEnds.{Copies, listed}
use Rattle.j39_vehicle_findings.specs.Traces.{behind_forward, next_forward}
use Rattle.j39_vehicle_findings.specs.declared.point.Point.{Point}
use Rattle.j39_vehicle_laws.specs.Faithful.{KeepsContents, signal_of}
use Rattle.j39_vehicle_laws.specs.Reading.{IsUnset, ReadsOver, reading}
use Rattle.j39_vehicle_laws.specs.BusRuns.{BusMessage, WasBegun, WasReported, flow_on_bus}

-- ---- the signal of a trace

abbrev pub group_of_point : ℕ → FlowPlan → GroupAt
group_of_point bus flow = record { bus = bus; group = flow.group }

-- the signal at a point of a trace, if it follows one
abbrev pub signal_at : Vehicle → Point → Option SignalParts
signal_at v p = option_and_then (λ (flow : FlowPlan). option_and_then (signal_of v (group_of_point p.at.bus flow)) p.signal) (flow_on_bus v p.at)

-- the first that the forward lists for this signal of the output's group
abbrev pub listed_for : Forward → ℕ → Option ForwardedSignal
listed_for n t = option_and_then (λ i. slice_get (listed n) i) (position (λ s. s.written == t) (listed n))

-- what the forward puts into this signal has to be exact; a copy is
abbrev pub is_exact_into : Forward → ℕ → Bool
is_exact_into n t = option_map_or (λ (f : ForwardedSignal). f.exact) (listed_for n t) true

abbrev pub is_exact : Forward → Option ℕ → Bool
is_exact n signal = option_map_or (is_exact_into n) signal true

-- what the signal of the trace reads in a message that carries this one, or none
abbrev pub IsTakenOver : Vehicle → Forward → Option BusMessage → BusMessage → Type 0
IsTakenOver v n (Some k) m = (t : SignalParts) → signal_at v m.point ≡ Some t → IsUnset t (is_exact n m.point.signal) (reading t m.bytes)
    ⊎ ((s : SignalParts) × (signal_at v k.point ≡ Some s) × ReadsOver s k.bytes t (is_exact n m.point.signal) (reading t m.bytes))
IsTakenOver v n None m = (t : SignalParts) → signal_at v m.point ≡ Some t → IsUnset t (is_exact n m.point.signal) (reading t m.bytes)

-- ---- forward by forward

-- the message was begun, and the trace goes on from its point by this forward
pub record GoesBy (v : Vehicle) (worlds : ℕ → World) (m : BusMessage) (n : Forward) : Type 0 where
  pub place : ℕ
  pub next : next_forward v m.point ≡ Some place
  pub its : slice_get v.forwards.items place ≡ Some n
  pub begun : WasBegun v worlds m

-- it carries this one, of the flow by which the trace goes on, which the gateway's unit reported
pub record BringsAnother (v : Vehicle) (worlds : ℕ → World) (m : BusMessage) (n : Forward) (k : BusMessage) : Type 0 where
  pub goes_on : behind_forward v m.point.signal n ≡ Some k.point
  pub hearer : k.hearer ≡ n.hearer
  pub reported : WasReported v worlds k
  pub faithful : KeepsContents v n (Some k.bytes) m.bytes
  pub signal : IsTakenOver v n (Some k) m

-- it carries none
pub record BringsNothing (v : Vehicle) (m : BusMessage) (n : Forward) : Type 0 where
  pub faithful : KeepsContents v n None m.bytes
  pub signal : IsTakenOver v n None m

-- forward by forward the message carries the other one, which was begun where the trace ends, or none
pub data Brings (v : Vehicle) (worlds : ℕ → World) : BusMessage → Option BusMessage → Type 0 where
  itself : (m : BusMessage) → next_forward v m.point ≡ None → WasBegun v worlds m → Brings v worlds m (Some m)
  nothing : (m : BusMessage) (n : Forward) → GoesBy v worlds m n → BringsNothing v m n → Brings v worlds m None
  another : (m k : BusMessage) (n : Forward) (o : Option BusMessage) → GoesBy v worlds m n → BringsAnother v worlds m n k
      → Brings v worlds k o → Brings v worlds m o

-- ---- all forwards of a trace

-- each forward of the trace of this point meets P, with the signal that it goes into there
pub data EachForward (v : Vehicle) (P : Option ℕ → Forward → Type 0) : Point → Type 0 where
  none : (p : Point) → next_forward v p ≡ None → EachForward v P p
  more : (p q : Point) (place : ℕ) (n : Forward) → next_forward v p ≡ Some place → slice_get v.forwards.items place ≡ Some n
      → behind_forward v p.signal n ≡ Some q → P p.signal n → EachForward v P q → EachForward v P p

-- all of them copy
abbrev pub AreAllCopies : Vehicle → Point → Type 0
AreAllCopies v p = EachForward v (λ signal n. Copies n) p

-- all of them copy, or are exact
abbrev pub AreAllExact : Vehicle → Point → Type 0
AreAllExact v p = EachForward v (λ signal n. is_exact n signal ≡ true) p
