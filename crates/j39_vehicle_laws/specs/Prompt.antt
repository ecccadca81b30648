-- Gateways that send on in time: directly, for each message that ends one of their own; or at their own releases, the newest that they have.
use Rattle.std.specs.Prelude.{◌≡◌, ℕ, ◌+◌, ◌*◌, ◌<◌, ◌≤◌, ◌==◌, Bool, true, false, Option, Some, None}
use Rattle.std.specs.Option.{option_and_then, option_map, option_map_or}
use Rattle.j39_network.specs.declared.plan.flow_plan.FlowPlan.{FlowPlan}
use Rattle.j39_vehicle.specs.declared.vehicle.Vehicle.{Vehicle}
use Rattle.j39_vehicle.specs.declared.vehicle.forward.Forward.{Forward}
use Rattle.j39_vehicle_findings.specs.ForwardTests.{feeds, is_direct}
use Rattle.j39_vehicle_findings.specs.Traces.{goes_on, next_forward}
use Rattle.j39_vehicle_findings.specs.declared.point.FlowAt.{FlowAt}
use Rattle.j39_vehicle_findings.specs.declared.point.Point.{Point}
use Rattle.j39_vehicle_laws.specs.Gateways.{HasBegun, HasOwnReleases, IsHandedOn, IsIts, end_time, queue_time}
use Rattle.j39_vehicle_laws.specs.Faithful.{KeepsContents}
use Rattle.j39_vehicle_times.specs.declared.bus_delays.Delays.{Delays}
use Rattle.j39_vehicle_times.specs.Times.{askers_on, behind_at, delay_at, direct_feeder, flow_at, forward_at, first_input_at, interval_us}
use Rattle.j39_vehicle_laws.specs.Seen.{SeenBuses, frames_at, of_us}

-- some of the buses and flows of a vehicle, of which something is asked
pub record Scope : Type 0 where
  pub buses : ℕ → Bool
  pub flows : FlowAt → Bool

-- no request that has a period asks for the flow, or it comes by itself too
abbrev pub is_unasked : Vehicle → FlowAt → Bool
is_unasked v at = option_map_or (λ (flow : FlowPlan). askers_on v.buses.items at.bus flow == 0) (flow_at v.buses.items at) true

-- all of them, but for flows that come only as answers to such requests
abbrev pub whole_vehicle : Vehicle → Scope
whole_vehicle v = record { buses = λ b. true; flows = is_unasked v }

-- its flows of a bus, by their places
abbrev pub scope_on : Scope → ℕ → ℕ → Bool
scope_on scope b flow = scope.flows (record { bus = b; flow = flow })

-- a delay is reported of the flow: each of its messages goes in one frame
abbrev pub IsDelayKnown : Delays → FlowAt → Type 0
IsDelayKnown delays at = (bits : ℕ) × (delay_at delays at ≡ Some bits)

-- what is said of signal t of flow y is what was said of signal s of flow x, by the forward at a place
pub record LeadsTo (v : Vehicle) (n : ℕ) (x : FlowAt) (s : Option ℕ) (y : FlowAt) (t : Option ℕ) : Type 0 where
  pub by : next_forward v (record { at = y; signal = t }) ≡ Some n
  pub on : goes_on v (record { at = y; signal = t }) n ≡ Some (record { at = x; signal = s })

-- the forward at a place sends flow y, of which its first input is flow x
pub record SendsOn (v : Vehicle) (n : ℕ) (forward : Forward) (x y : FlowAt) (within : ℕ) : Type 0 where
  pub its : forward_at v n ≡ Some forward
  pub output : feeds v y forward ≡ true
  pub input : first_input_at v forward ≡ Some x
  pub promised : option_map (λ (ms : ℕ). 1000 * ms) forward.within ≡ Some within

-- each message of the output is one of the input, sent on at most `within` behind its end; each of the input that ends is sent on; what is said of
-- a signal is what was said of the one that goes into it; and the bytes keep what the forward has to keep
pub record IsSentDirectly (v : Vehicle) (seen : SeenBuses) (n : ℕ) (x y : FlowAt) (within : ℕ) : Type 0 where
  pub handed : IsHandedOn (frames_at v seen x) (frames_at v seen y) (of_us within)
  pub each : (p : ℕ) → HasBegun (frames_at v seen x) p → (q : ℕ) × IsIts (frames_at v seen y) q × (handed.what q ≡ p)
  pub says : (s t : Option ℕ) → LeadsTo v n x s y t → (q : ℕ) → IsIts (frames_at v seen y) q
      → (seen y.bus).born q t ≡ (seen x.bus).born (handed.what q) s
  pub keeps : (forward : Forward) → forward_at v n ≡ Some forward → (q : ℕ) → IsIts (frames_at v seen y) q
      → KeepsContents v forward (Some ((seen x.bus).bytes (handed.what q))) ((seen y.bus).bytes q)
  pub carries : (q : ℕ) → IsIts (frames_at v seen y) q → (seen y.bus).carries n q (handed.what q) ≡ true

-- a message of the input that had ended `within` before the release of one of the output, and isn't too old by then, is what this carries, or else
-- a later one that has ended by when it is queued; and its bytes keep what the forward has to keep of this one
pub record IsSentAtItsBeat (v : Vehicle) (seen : SeenBuses) (n : ℕ) (x y : FlowAt) (within patience : ℕ) : Type 0 where
  pub newest : (s t : Option ℕ) → LeadsTo v n x s y t → (p q : ℕ) → HasBegun (frames_at v seen x) p → IsIts (frames_at v seen y) q
      → end_time (frames_at v seen x) p + of_us within ≤ (seen y.bus).release q
      → (seen y.bus).release q < end_time (frames_at v seen x) p + of_us patience
      → (r : ℕ) × HasBegun (frames_at v seen x) r × (end_time (frames_at v seen x) p ≤ end_time (frames_at v seen x) r)
      × (end_time (frames_at v seen x) r ≤ queue_time (frames_at v seen y) q) × ((seen y.bus).born q t ≡ (seen x.bus).born r s)
      × ((forward : Forward) → forward_at v n ≡ Some forward → KeepsContents v forward (Some ((seen x.bus).bytes r)) ((seen y.bus).bytes q))
      × ((seen y.bus).carries n q r ≡ true)

-- gateways do so, of flows of which a delay is reported, where they send directly to a bus of the scope, or a flow of it at its own releases; no message
-- is too old for them before the next one has to be there
pub record ArePrompt (v : Vehicle) (delays : Delays) (scope : Scope) (seen : SeenBuses) : Type 0 where
  pub direct : (n : ℕ) (forward : Forward) (x y : FlowAt) (within : ℕ) → SendsOn v n forward x y within → is_direct forward ≡ true
      → scope.buses y.bus ≡ true → IsDelayKnown delays x → IsDelayKnown delays y → IsSentDirectly v seen n x y within
  pub periodic : (n : ℕ) (forward : Forward) (x y : FlowAt) (within pause time : ℕ) → SendsOn v n forward x y within → is_direct forward ≡ false
      → scope.flows y ≡ true → interval_us v x ≡ Some pause → behind_at v delays x ≡ Some time
      → IsSentAtItsBeat v seen n x y within (pause + (time + within))

-- the flow that a direct forward takes for its input, for a flow of which a delay is reported: each of its messages goes in one frame
abbrev pub sent_from : Vehicle → Delays → FlowAt → Option FlowAt
sent_from v delays at = option_and_then (λ (bits : ℕ). option_and_then (first_input_at v) (direct_feeder v at)) (delay_at delays at)

abbrev pub IsSentOn : Vehicle → Delays → FlowAt → Type 0
IsSentOn v delays at = (from : FlowAt) × (sent_from v delays at ≡ Some from)

-- no flow that comes only as an answer to requests that have a period is sent on directly, nor is what is sent on one
abbrev pub AreSentUnasked : Vehicle → Delays → Type 0
AreSentUnasked v delays = (at from : FlowAt) → sent_from v delays at ≡ Some from → (is_unasked v at ≡ true) × (is_unasked v from ≡ true)

-- the bus of each of its flows is in it, and with a bus each flow that is sent on directly to this bus; none of these, nor what they are sent on as, comes
-- only as an answer to requests that have a period
pub record IsScope (v : Vehicle) (delays : Delays) (scope : Scope) : Type 0 where
  pub its_bus : (at : FlowAt) → scope.flows at ≡ true → scope.buses at.bus ≡ true
  pub sources : (at from : FlowAt) → scope.buses at.bus ≡ true → sent_from v delays at ≡ Some from → scope.flows from ≡ true
  pub unasked : (at : FlowAt) → scope.flows at ≡ true → is_unasked v at ≡ true
  pub sent_unasked : (at from : FlowAt) → scope.buses at.bus ≡ true → sent_from v delays at ≡ Some from → is_unasked v at ≡ true

-- all other flows of its buses have releases of their own bus
abbrev pub HaveOwnReleases : Vehicle → Delays → Scope → SeenBuses → Type 0
HaveOwnReleases v delays scope seen = (at : FlowAt) → scope.buses at.bus ≡ true → ¬ IsSentOn v delays at → HasOwnReleases (frames_at v seen at)

-- at its origin a message of one of its flows says what is so at its release, or later, when it is queued at the latest
abbrev pub SayWhatIsSo : Vehicle → Scope → SeenBuses → Type 0
SayWhatIsSo v scope seen = (p : Point) → scope.flows p.at ≡ true → next_forward v p ≡ None → (q : ℕ) → IsIts (frames_at v seen p.at) q
    → (time : ℕ) × ((seen p.at.bus).born q p.signal ≡ Some time) × ((seen p.at.bus).release q ≤ time) × (time ≤ queue_time (frames_at v seen p.at) q)
