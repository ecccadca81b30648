-- What a gateway hears and what it sends on: the inputs and the outputs of a forward, and what of the one goes into the other (SAE J1939-31).
use Rattle.std.specs.Prelude.{◌≡◌, ℕ, List, [], Some, None}
use Rattle.std.specs.List.{slice_get}
use Rattle.std.proofs.lemmas.Option.{none-some}
use Rattle.std.specs.Option.{option_map_or}
use Rattle.j39_network.specs.Serving.{Meets}
use Rattle.j39_search.specs.ListPlaces.{SomeMeets, ValueAt}
use Rattle.j39_network.specs.declared.plan.flow_plan.FlowPlan.{FlowPlan}
use Rattle.j39_network.specs.declared.plan.need_plan.NeedPlan.{NeedPlan}
use Rattle.j39_network.specs.declared.plan.to.To.{To}
use Rattle.j39_vehicle.specs.declared.vehicle.Vehicle.{Vehicle}
use Rattle.j39_vehicle.specs.declared.vehicle.forward.Forward.{Forward}
use Rattle.j39_vehicle.specs.declared.vehicle.forward.ForwardedSignal.{ForwardedSignal}
use Rattle.j39_vehicle.specs.declared.vehicle.forward.Mode.TheVariants.{Direct}
use Rattle.j39_vehicle.specs.declared.vehicle.places.UnitAt.{UnitAt}
use Rattle.j39_vehicle_findings.specs.declared.point.FlowAt.{FlowAt}
use Rattle.j39_vehicle_findings.specs.Buses.{flows_on, requests_on}

-- ---- gateways

-- the units of the gateway at a place
abbrev pub units_of_gateway : Vehicle → ℕ → List UnitAt
units_of_gateway v k = option_map_or (λ gateway. gateway.units.items) (slice_get v.gateways.items k) []

-- one of these is the unit of a bus
abbrev pub IsAmong : List UnitAt → UnitAt → Type 0
IsAmong units u = SomeMeets (λ w. (w.bus ≡ u.bus) × (w.unit ≡ u.unit)) units

-- ---- inputs and outputs

-- what the gateway's unit has to hear for the forward
abbrev pub need_of_hearer : Forward → NeedPlan
need_of_hearer forward = record {
  unit = forward.hearer;
  group = forward.input.group;
  signal = None;
  from = forward.from;
  within = None;
  within_positive = λ w is. absurd (none-some _ is);
}

-- a flow of the bus where the gateway hears is an input: it brings this unit what it has to hear, and no unit of the gateway sends it
pub record IsInput (v : Vehicle) (forward : Forward) (flow : FlowPlan) : Type 0 where
  pub meets : Meets (requests_on v.buses.items forward.input.bus) (need_of_hearer forward) flow
  pub other : ¬ IsAmong (units_of_gateway v forward.gateway) (record { bus = forward.input.bus; unit = flow.sender })

-- a flow of the bus where the gateway sends is an output: the gateway's unit sends this group in it, to the receiver that is named, if any is
pub record IsOutput (forward : Forward) (flow : FlowPlan) : Type 0 where
  pub group : flow.group ≡ forward.output.group
  pub sender : flow.sender ≡ forward.sender
  pub to : (receiver : To) → forward.to ≡ Some receiver → flow.to ≡ receiver

abbrev pub input_flows : Vehicle → Forward → List FlowPlan
input_flows v forward = flows_on v.buses.items forward.input.bus

abbrev pub output_flows : Vehicle → Forward → List FlowPlan
output_flows v forward = flows_on v.buses.items forward.output.bus

-- the forward feeds this flow: it is one of its outputs
abbrev pub Feeds : Vehicle → Forward → FlowAt → Type 0
Feeds v forward at = (forward.output.bus ≡ at.bus) × ValueAt (IsOutput forward) (output_flows v forward) at.flow

-- ---- what goes into what

-- a message of the output has the bytes of one of the input
abbrev pub Copies : Forward → Type 0
Copies forward = forward.signals ≡ None

-- the signals that go into others, one by one
abbrev pub listed : Forward → List ForwardedSignal
listed forward = option_map_or (λ signals. signals.items) forward.signals []

-- some signal goes into that one of the output
abbrev pub Writes : Forward → ℕ → Type 0
Writes forward t = SomeMeets (λ s. s.written ≡ t) (listed forward)

-- both write one signal
abbrev pub WriteOneSignal : Forward → Forward → Type 0
WriteOneSignal n m = SomeMeets (λ s. Writes m s.written) (listed n)

abbrev pub IsDirect : Forward → Type 0
IsDirect forward = forward.mode ≡ Direct

-- ---- loops

-- an output of the one is an input of the other
pub record IsFollowedBy (v : Vehicle) (n m : Forward) : Type 0 where
  pub bus : n.output.bus ≡ m.input.bus
  pub flow : SomeMeets (λ f. IsOutput n f × IsInput v m f) (output_flows v n)

-- so it is with the forwards at these places
pub record FollowsAt (v : Vehicle) (n m : ℕ) : Type 0 where
  pub first : Forward
  pub first_is : slice_get v.forwards.items n ≡ Some first
  pub second : Forward
  pub second_is : slice_get v.forwards.items m ≡ Some second
  pub followed : IsFollowedBy v first second

-- m comes after n: an output of n, or of a forward after n, is an input of m
pub data ComesAfter (v : Vehicle) (n : ℕ) : ℕ → Type 0 where
  at_once : (m : ℕ) → FollowsAt v n m → ComesAfter v n m
  later : (k m : ℕ) → ComesAfter v n k → FollowsAt v k m → ComesAfter v n m
