-- Where what a flow brings comes from: from forward to forward, back to the unit that sent it first.
use Rattle.std.specs.Prelude.{◌≡◌, ℕ, zero, suc, List, length, Bool, true, false, ◌&&◌, ◌||◌, ◌==◌, if◌then◌else◌, Option, Some, None}
use Rattle.std.specs.List.{slice_get, position}
use Rattle.std.proofs.lemmas.Option.{none-some}
use Rattle.std.specs.Option.{option_and_then, option_map, option_map_or}
use Rattle.j39_signal.specs.declared.signal_parts.SignalParts.{SignalParts}
use Rattle.j39_network.specs.Serving.{Meets}
use Rattle.j39_network.specs.declared.plan.flow_plan.FlowPlan.{FlowPlan}
use Rattle.j39_network.specs.declared.plan.group_plan.GroupPlan.{GroupPlan}
use Rattle.j39_network.specs.declared.plan.need_plan.NeedPlan.{NeedPlan}
use Rattle.j39_vehicle.specs.declared.vehicle.Vehicle.{Vehicle}
use Rattle.j39_vehicle.specs.declared.vehicle.forward.Forward.{Forward}
use Rattle.j39_vehicle.specs.declared.vehicle.forward.ForwardedSignal.{ForwardedSignal}
use Rattle.j39_vehicle.specs.declared.vehicle.places.UnitAt.{UnitAt}
use Rattle.j39_vehicle.specs.declared.vehicle.vehicle_need.VehicleNeed.{VehicleNeed}
use Rattle.j39_vehicle_findings.specs.Buses.{flows_on, group_at, requests_on}
use Rattle.j39_vehicle_findings.specs.declared.point.Point.{Point}
use Rattle.j39_vehicle_findings.specs.ForwardEnds.{input_flows, listed}
use Rattle.j39_vehicle_findings.specs.ForwardTests.{copies, feeds, is_input, writes}
use Rattle.j39_vehicle_findings.specs.MatchTests.{agree}

-- the forward copies, or writes the signal; without a signal it copies
abbrev pub carries : Option ℕ → Forward → Bool
carries None forward = copies forward
carries (Some t) forward = copies forward || writes forward t

-- the trace goes on by the first forward that feeds the flow and carries the signal
abbrev pub next_forward : Vehicle → Point → Option ℕ
next_forward v p = position (λ n. feeds v p.at n && carries p.signal n) v.forwards.items

-- the first signal of the group that agrees with this one
abbrev pub first_agreeing : GroupPlan → SignalParts → Option ℕ
first_agreeing g t = position (λ s. agree s t) g.signals.items

-- of a forward that copies, the first signal of the group that is heard that agrees with t
abbrev pub agreeing_in : GroupPlan → Option SignalParts → Option ℕ
agreeing_in g t = option_and_then (first_agreeing g) t

abbrev pub copied_into : Vehicle → Forward → ℕ → Option ℕ
copied_into v n t = option_and_then (λ g. option_and_then (λ h. agreeing_in g (slice_get h.signals.items t)) (group_at v.buses.items n.output))
    (group_at v.buses.items n.input)

-- of another one, what it puts there
abbrev pub put_into : Forward → ℕ → Option ℕ
put_into n t = option_map (λ (s : ForwardedSignal). s.read) (option_and_then (λ i. slice_get (listed n) i) (position (λ s. s.written == t) (listed n)))

-- what goes into t
abbrev pub goes_into : Vehicle → Forward → ℕ → Option ℕ
goes_into v n t = if copies n then copied_into v n t else put_into n t

abbrev pub first_input : Vehicle → Forward → Option ℕ
first_input v n = position (is_input v n) (input_flows v n)

abbrev pub point_on : ℕ → ℕ → Option ℕ → Point
point_on bus flow signal = record { at = record { bus = bus; flow = flow }; signal = signal }

-- and with the first input, and with what goes into the signal
abbrev pub behind_forward : Vehicle → Option ℕ → Forward → Option Point
behind_forward v None n = option_map (λ i. point_on n.input.bus i None) (first_input v n)
behind_forward v (Some t) n = option_and_then (λ i. option_map (λ s. point_on n.input.bus i (Some s)) (goes_into v n t)) (first_input v n)

abbrev pub goes_on : Vehicle → Point → ℕ → Option Point
goes_on v p n = option_and_then (behind_forward v p.signal) (slice_get v.forwards.items n)

-- where the trace ends, if it goes on so many times at most: where no forward leads on. It has no end where what goes into a signal is missing.
unfoldable pub trace_end : Vehicle → ℕ → Point → Option Point
trace_end v zero p = option_map_or (λ n. None) (next_forward v p) (Some p)
trace_end v (suc steps) p = option_map_or (λ n. option_and_then (trace_end v steps) (goes_on v p n)) (next_forward v p) (Some p)

-- no trace goes on more often than there are forwards
abbrev pub origin : Vehicle → Point → Option Point
origin v p = trace_end v (length v.forwards.items) p

-- the flow at this point is sent by the unit
abbrev pub is_sent_by : Vehicle → UnitAt → Point → Bool
is_sent_by v u p = p.at.bus == u.bus && option_map_or (λ (f : FlowPlan). f.sender == u.unit) (slice_get (flows_on v.buses.items p.at.bus) p.at.flow) false

-- ---- needs

-- the need as one of the bus of its unit, from any unit
abbrev pub need_on_bus : VehicleNeed → NeedPlan
need_on_bus d = record {
  unit = d.unit.unit;
  group = d.group;
  signal = None;
  from = None;
  within = None;
  within_positive = λ w is. absurd (none-some _ is);
}

abbrev pub flows_of_need : Vehicle → VehicleNeed → List FlowPlan
flows_of_need v d = flows_on v.buses.items d.unit.bus

-- the origin of what the flow at this place brings is sent by the unit that the need names
abbrev pub is_from_origin : Vehicle → VehicleNeed → ℕ → Bool
is_from_origin v d f = option_map_or (is_sent_by v d.from) (origin v (point_on d.unit.bus f d.signal)) false

-- a flow of the need: it brings the unit what it needs, and comes from that unit
pub record IsNeedFlow (v : Vehicle) (d : VehicleNeed) (f : ℕ) (flow : FlowPlan) : Type 0 where
  pub meets : Meets (requests_on v.buses.items d.unit.bus) (need_on_bus d) flow
  pub from : is_from_origin v d f ≡ true
