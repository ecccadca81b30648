-- What it is good for that nothing is found in what gateways send on, forward by forward, in the words of a vehicle file.
use Rattle.std.specs.Prelude.{◌≡◌, ◌≢◌, ℕ, ◌⊎◌, [], true, Some}
use Rattle.std.specs.List.{slice_get}
use Rattle.j39_signal.specs.declared.signal_parts.SignalParts.{SignalParts}
use Rattle.j39_network.specs.declared.plan.flow_plan.FlowPlan.{FlowPlan}
use Rattle.j39_network.specs.declared.plan.group_plan.GroupPlan.{GroupPlan}
use Rattle.j39_network.specs.declared.plan.queue.Queue.TheVariants.{Priority}
use Rattle.j39_network.specs.declared.plan.timing.Timing.{Timing}
use Rattle.j39_network.specs.declared.plan.unit_plan.UnitPlan.{UnitPlan}
use Rattle.j39_vehicle.specs.declared.vehicle.Vehicle.{Vehicle}
use Rattle.j39_vehicle.specs.declared.vehicle.bus_plan.BusPlan.{BusPlan}
use Rattle.j39_vehicle.specs.declared.vehicle.forward.Forward.{Forward}
use Rattle.j39_vehicle.specs.declared.vehicle.gateway.Gateway.{Gateway}
use Rattle.j39_vehicle.specs.declared.vehicle.places.UnitAt.{UnitAt}
use Rattle.j39_vehicle_findings.specs.Buses.{group_at, spn_at}
use Rattle.j39_vehicle_findings.specs.ForwardEnds.{Copies, Feeds, Writes, input_flows}
use Rattle.j39_vehicle_findings.specs.Traces.{first_input, goes_into}
use Rattle.j39_vehicle_findings.specs.declared.point.FlowAt.{FlowAt}

-- ---- what is heard

-- the flow is of the group that the forward names, the unit that it names with `from` sends it, and no unit of the gateway does
pub record IsNamedInput (v : Vehicle) (n : Forward) (flow : FlowPlan) : Type 0 where
  pub group : flow.group ≡ n.input.group
  pub sender : (u : ℕ) → n.from ≡ Some u → flow.sender ≡ u
  pub other : (gateway : Gateway) (k : ℕ) (own : UnitAt) → slice_get v.gateways.items n.gateway ≡ Some gateway
      → slice_get gateway.units.items k ≡ Some own → own.bus ≡ n.input.bus → own.unit ≢ flow.sender

-- so is the first input of each forward
abbrev pub InputsAreNamed : Vehicle → Type 0
InputsAreNamed v = (n : Forward) (i : ℕ) → first_input v n ≡ Some i → (flow : FlowPlan) × (slice_get (input_flows v n) i ≡ Some flow) × IsNamedInput v n flow

-- ---- what goes into what

-- where a message that a copy sends has a signal in each of its records, these are as far apart as in the group that is heard
abbrev pub CopiesHaveRecords : Vehicle → Type 0
CopiesHaveRecords v = (place : ℕ) (n : Forward) (g h : GroupPlan) (j : ℕ) (t : SignalParts) → slice_get v.forwards.items place ≡ Some n → Copies n
    → group_at v.buses.items n.input ≡ Some g → group_at v.buses.items n.output ≡ Some h → slice_get h.signals.items j ≡ Some t → t.repeated ≡ true
    → h.every ≡ g.every

-- a signal that goes into another one has its unit of measurement and its number (SPN), as far as both are reported
pub record MeansTheSame (g : GroupPlan) (i : ℕ) (s : SignalParts) (h : GroupPlan) (j : ℕ) (t : SignalParts) : Type 0 where
  pub unit : s.unit.bytes ≢ [] → t.unit.bytes ≢ [] → s.unit.bytes ≡ t.unit.bytes
  pub number : (a b : ℕ) → spn_at g i ≡ Some a → spn_at h j ≡ Some b → a ≡ b

abbrev pub SignalsMeanTheSame : Vehicle → Type 0
SignalsMeanTheSame v = (place : ℕ) (n : Forward) (g h : GroupPlan) (i j : ℕ) (s t : SignalParts) → slice_get v.forwards.items place ≡ Some n
    → group_at v.buses.items n.input ≡ Some g → group_at v.buses.items n.output ≡ Some h → slice_get g.signals.items i ≡ Some s
    → slice_get h.signals.items j ≡ Some t → goes_into v n j ≡ Some i → MeansTheSame g i s h j t

-- the forward puts something into this signal of what it sends
abbrev pub PutsInto : Forward → ℕ → Type 0
PutsInto n t = Copies n ⊎ Writes n t

-- no two forwards that feed one flow put something into one signal of it
abbrev pub SourcesAreOne : Vehicle → Type 0
SourcesAreOne v = (m n : ℕ) (first second : Forward) (at : FlowAt) (t : ℕ) → slice_get v.forwards.items m ≡ Some first
    → slice_get v.forwards.items n ≡ Some second → m ≢ n → Feeds v first at → Feeds v second at → PutsInto first t → ¬ PutsInto second t

-- ---- queues

-- on a bus of whose timing something is known, a unit of a gateway that has another one there keeps order
abbrev pub SharedQueuesKeepOrder : Vehicle → Type 0
SharedQueuesKeepOrder v = (k : ℕ) (gateway : Gateway) (b : ℕ) (bus : BusPlan) (timing : Timing) (i j : ℕ) (u w : UnitAt) (unit : UnitPlan)
    → slice_get v.gateways.items k ≡ Some gateway → slice_get v.buses.items b ≡ Some bus → bus.plan.timing ≡ Some timing → i ≢ j
    → slice_get gateway.units.items i ≡ Some u → slice_get gateway.units.items j ≡ Some w → u.bus ≡ b → w.bus ≡ b
    → slice_get bus.plan.units.items u.unit ≡ Some unit → unit.queue ≡ Priority
