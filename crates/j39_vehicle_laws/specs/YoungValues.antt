-- How old what is brought over gateways is at most.
use Rattle.std.specs.Prelude.{◌≡◌, ℕ, ◌+◌, ◌*◌, ◌<◌, ◌≤◌, true, [], Option, Some, None}
use Rattle.std.specs.Option.{option_and_then, option_map}
use Rattle.j39_signal.specs.declared.signal_parts.SignalParts.{SignalParts}
use Rattle.j39_network.specs.declared.plan.flow_plan.FlowPlan.{FlowPlan}
use Rattle.j39_network.specs.declared.plan.timing.Timing.{Timing}
use Rattle.j39_load.specs.Clocks.{longest_million}
use Rattle.j39_vehicle.specs.declared.vehicle.Vehicle.{Vehicle}
use Rattle.j39_vehicle.specs.declared.vehicle.forward.Forward.{Forward}
use Rattle.j39_vehicle_findings.specs.Traces.{goes_on, next_forward}
use Rattle.j39_vehicle_findings.specs.VehicleFindings.{AreFindings}
use Rattle.j39_vehicle_findings.specs.declared.point.FlowAt.{FlowAt}
use Rattle.j39_vehicle_findings.specs.declared.point.Point.{Point}
use Rattle.j39_vehicle_laws.specs.Gateways.{HasBegun, IsIts, end_time}
use Rattle.j39_vehicle_times.specs.BusDelays.{AreDelays}
use Rattle.j39_vehicle_times.specs.declared.bus_delays.Delays.{Delays}
use Rattle.j39_vehicle_times.specs.Times.{age, direct_feeder, first_input_at, forward_at, timing_on, unasked_at}
use Rattle.j39_vehicle_laws.specs.BusRuns.{BusMessage}
use Rattle.j39_vehicle_laws.specs.Carrying.{AreAllCopies, AreAllExact, signal_at}
use Rattle.j39_vehicle_laws.specs.Faithful.{KeepsContents}
use Rattle.j39_vehicle_laws.specs.Unaltered.{ReadsAsOrigin}
use Rattle.j39_vehicle_laws.specs.KeptBuses.{AreKeptBuses, AreSeenUntil}
use Rattle.j39_vehicle_laws.specs.Prompt.{ArePrompt, HaveOwnReleases, IsScope, SayWhatIsSo, Scope}
use Rattle.j39_vehicle_laws.specs.Seen.{SeenBuses, frames_at, of_us}

-- the trace of the first point goes on to the other one, or is there
pub data IsOnTheWay (v : Vehicle) (p : Point) : Point → Type 0 where
  itself : IsOnTheWay v p p
  behind_it : (q r : Point) (n : ℕ) → IsOnTheWay v p q → next_forward v q ≡ Some n → goes_on v q n ≡ Some r → IsOnTheWay v p r

-- each flow on the way to the point is in the scope
abbrev pub HasWay : Vehicle → Scope → Point → Type 0
HasWay v scope p = (q : Point) → IsOnTheWay v p q → scope.flows q.at ≡ true

-- messages of the first flow are those of the other one, sent on directly, or their own
pub data ComesDirectly (v : Vehicle) (at : FlowAt) : FlowAt → Type 0 where
  by_itself : ComesDirectly v at at
  sent_on : (x y : FlowAt) (n : Forward) → ComesDirectly v at y → direct_feeder v y ≡ Some n → first_input_at v n ≡ Some x → ComesDirectly v at x

-- the longest time between two releases of a flow, as its own plan has it, by the slowest clock of its unit, in nanoseconds
abbrev pub pause_at : Vehicle → FlowAt → Option ℕ
pause_at v at = option_and_then (λ (flow : FlowPlan). option_and_then (λ (timing : Timing). option_map (λ (ms : ℕ). ms * longest_million timing) flow.pause)
    (timing_on v.buses.items at.bus)) (unasked_at v at)

-- from one time to another, a message of the flow has had its release less than its pause ago
abbrev pub KeepsItsPause : Vehicle → SeenBuses → FlowAt → ℕ → ℕ → Type 0
KeepsItsPause v seen at from to = (pause : ℕ) → pause_at v at ≡ Some pause → (t : ℕ) → from ≤ t → t ≤ to
    → (p : ℕ) × IsIts (frames_at v seen at) p × ((seen at.bus).release p ≤ t) × (t < (seen at.bus).release p + 1000 * pause)

-- so do all on the way that have releases of their own: the origin's flow, and those that gateways send at their own beat
abbrev pub KeepPauses : Vehicle → SeenBuses → Point → ℕ → ℕ → Type 0
KeepPauses v seen p from to = (q : Point) → IsOnTheWay v p q → (at : FlowAt) → ComesDirectly v q.at at → direct_feeder v at ≡ None
    → KeepsItsPause v seen at from to

-- forward by forward a frame of the flow at the point carries this one, of the flow where the trace ends
pub data BringsFrame (v : Vehicle) (seen : SeenBuses) (origin : Point) (first : ℕ) : Point → ℕ → Type 0 where
  at_its_origin : next_forward v origin ≡ None → BringsFrame v seen origin first origin first
  by_forward : (p x : Point) (frame carried place : ℕ) (n : Forward) → next_forward v p ≡ Some place → forward_at v place ≡ Some n
      → goes_on v p place ≡ Some x → KeepsContents v n (Some ((seen x.at.bus).bytes carried)) ((seen p.at.bus).bytes frame)
      → (seen p.at.bus).carries place frame carried ≡ true → BringsFrame v seen origin first x carried → BringsFrame v seen origin first p frame

-- it does so of a frame that had ended before it, and that says what was so at this time
pub record IsBroughtFrom (v : Vehicle) (seen : SeenBuses) (p : Point) (frame born : ℕ) : Type 0 where
  pub origin : Point
  pub first : ℕ
  pub begun : HasBegun (frames_at v seen origin.at) first
  pub ended : end_time (frames_at v seen origin.at) first ≤ end_time (frames_at v seen p.at) frame
  pub says : (seen origin.at.bus).born first origin.signal ≡ Some born
  pub brings : BringsFrame v seen origin first p frame

-- the frame as a message at its point
abbrev pub message_at : SeenBuses → Point → ℕ → BusMessage
message_at seen p frame = record { point = p; hearer = 0; bytes = (seen p.at.bus).bytes frame }

-- where only copies are on the way it has the bytes of the frame of the origin; and where all that goes into signals on the way is copied or exact,
-- its signal reads no value, or the one that is read there
pub record ReadsAsBrought (v : Vehicle) (seen : SeenBuses) (p : Point) (frame : ℕ) (origin : Point) (first : ℕ) : Type 0 where
  pub bytes : AreAllCopies v p → (seen p.at.bus).bytes frame ≡ (seen origin.at.bus).bytes first
  pub value : AreAllExact v p → (t : SignalParts) → signal_at v p ≡ Some t
      → ReadsAsOrigin v (message_at seen p frame) t (Some (message_at seen origin first))

-- a frame of the flow says of the signal what was so at its origin less than `age` before, and brings it from there
pub record SaysYoung (v : Vehicle) (seen : SeenBuses) (p : Point) (age t frame : ℕ) : Type 0 where
  pub born : ℕ
  pub says : (seen p.at.bus).born frame p.signal ≡ Some born
  pub past : born ≤ t
  pub young : t < born + age
  pub from : IsBroughtFrom v seen p frame born
  pub unaltered : ReadsAsBrought v seen p frame from.origin from.first

-- by this time a frame of the flow has ended; and each that has, and ended no sooner, says what is young: so does the one that ended last
pub record IsBroughtYoung (v : Vehicle) (seen : SeenBuses) (p : Point) (age t : ℕ) : Type 0 where
  pub frame : ℕ
  pub begun : HasBegun (frames_at v seen p.at) frame
  pub ended : end_time (frames_at v seen p.at) frame ≤ t
  pub newest : (q : ℕ) → HasBegun (frames_at v seen p.at) q → end_time (frames_at v seen p.at) frame ≤ end_time (frames_at v seen p.at) q
      → end_time (frames_at v seen p.at) q ≤ t → SaysYoung v seen p age t q

-- what is asked of what is seen of a vehicle up to a time, of the buses and flows of a scope, which may be the whole vehicle: they keep to their plans
-- so; gateways that send to them are prompt; and at its origin a message says what is so
pub record IsSeenKeeping (Keep : Vehicle → Delays → Scope → SeenBuses → Type 0) (v : Vehicle) (delays : Delays) (seen : SeenBuses) (by : ℕ) : Type 0 where
  pub scope : Scope
  pub closed : IsScope v delays scope
  pub kept : Keep v delays scope seen
  pub until : AreSeenUntil v scope seen by
  pub prompt : ArePrompt v delays scope seen
  pub own_releases : HaveOwnReleases v delays scope seen
  pub origins : SayWhatIsSo v scope seen

-- they keep to their plans in all
abbrev pub IsSeenVehicle : Vehicle → Delays → SeenBuses → ℕ → Type 0
IsSeenVehicle = IsSeenKeeping AreKeptBuses

-- each age that is known bounds how old what the flow brings is: at each time before which pauses were kept for as long
abbrev pub AreAgesBounds : Vehicle → Delays → Type 0
AreAgesBounds v delays = AreFindings v [] → AreDelays v delays → (seen : SeenBuses) (p : Point) (most from t : ℕ) → age v delays p ≡ Some most
    → from + of_us most ≤ t → (is : IsSeenVehicle v delays seen t) → HasWay v is.scope p → KeepPauses v seen p from t
    → IsBroughtYoung v seen p (of_us most) t
