-- Tests of what a forward hears, sends and carries.
use Rattle.std.specs.Prelude.{ℕ, List, Bool, true, false, not, ◌&&◌, ◌==◌, Option, Some, None}
use Rattle.std.specs.List.{slice_get, list_any}
use Rattle.std.specs.Option.{option_map_or}
use Rattle.j39_network.specs.Serving.{have_same_receiver}
use Rattle.j39_network.specs.Serving.{meets}
use Rattle.j39_network.specs.declared.plan.flow_plan.FlowPlan.{FlowPlan}
use Rattle.j39_network.specs.declared.plan.to.To.{To}
use Rattle.j39_vehicle.specs.declared.vehicle.Vehicle.{Vehicle}
use Rattle.j39_vehicle.specs.declared.vehicle.forward.Forward.{Forward}
use Rattle.j39_vehicle.specs.declared.vehicle.forward.Mode.{Mode}
use Rattle.j39_vehicle.specs.declared.vehicle.forward.Mode.TheVariants.{Direct, Periodic}
use Rattle.j39_vehicle.specs.declared.vehicle.places.UnitAt.{UnitAt}
use Rattle.j39_vehicle_findings.specs.Buses.{requests_on}
use Rattle.j39_vehicle_findings.specs.declared.point.FlowAt.{FlowAt}
use Rattle.j39_vehicle_findings.specs.ForwardEnds.{need_of_hearer, listed, output_flows, units_of_gateway}

abbrev pub is_unit_among : List UnitAt → ℕ → ℕ → Bool
is_unit_among units bus unit = list_any (λ w. w.bus == bus && w.unit == unit) units

abbrev pub is_input : Vehicle → Forward → FlowPlan → Bool
is_input v forward flow = meets (requests_on v.buses.items forward.input.bus) (need_of_hearer forward) flow
    && not (is_unit_among (units_of_gateway v forward.gateway) forward.input.bus flow.sender)

abbrev pub goes_to_receiver : Option To → To → Bool
goes_to_receiver None to = true
goes_to_receiver (Some receiver) to = have_same_receiver to receiver

abbrev pub is_output : Forward → FlowPlan → Bool
is_output forward flow = flow.group == forward.output.group && (flow.sender == forward.sender && goes_to_receiver forward.to flow.to)

abbrev pub feeds : Vehicle → FlowAt → Forward → Bool
feeds v at forward = forward.output.bus == at.bus && option_map_or (is_output forward) (slice_get (output_flows v forward) at.flow) false

abbrev pub copies : Forward → Bool
copies forward = option_map_or (λ signals. false) forward.signals true

abbrev pub writes : Forward → ℕ → Bool
writes forward t = list_any (λ s. s.written == t) (listed forward)

abbrev pub write_one_signal : Forward → Forward → Bool
write_one_signal n m = list_any (λ s. writes m s.written) (listed n)

abbrev pub is_direct_mode : Mode → Bool
is_direct_mode Direct = true
is_direct_mode Periodic = false

abbrev pub is_direct : Forward → Bool
is_direct forward = is_direct_mode forward.mode

-- the flow is an output of the one and an input of the other
abbrev pub is_between_units : Vehicle → Forward → Forward → FlowPlan → Bool
is_between_units v n m flow = is_output n flow && is_input v m flow

abbrev pub is_followed : Vehicle → Forward → Forward → Bool
is_followed v n m =
    n.output.bus == m.input.bus && (n.output.group == m.input.group && list_any (is_between_units v n m) (output_flows v n))
