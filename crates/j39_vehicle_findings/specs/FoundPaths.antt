-- The findings of a vehicle as a list: a test for each statement, and the list of all that pass.
use Rattle.std.specs.Prelude.{ℕ, ◌+◌, List, [], ◌∷◌, ◌++◌, Bool, true, false, not, ◌&&◌, ◌||◌, ◌==◌, nat_lt, count_by, Option, Some, None}
use Rattle.std.specs.List.{slice_get, list_any, slice_index_or}
use Rattle.std.specs.Option.{option_map_or}
use Rattle.j39_signal.specs.declared.signal_parts.SignalParts.{SignalParts}
use Rattle.j39_signal.specs.Places.{shares_bit}
use Rattle.j39_signal.specs.declared.selector.Selector.{Selector}
use Rattle.j39_network.specs.Serving.{meets}
use Rattle.j39_search.specs.ListPlaces.{found_if, each, in_each, pairs}
use Rattle.j39_network.specs.declared.plan.flow_plan.FlowPlan.{FlowPlan}
use Rattle.j39_network.specs.declared.plan.group_plan.GroupPlan.{GroupPlan}
use Rattle.j39_network.specs.declared.plan.queue.Queue.{Queue}
use Rattle.j39_network.specs.declared.plan.queue.Queue.TheVariants.{Any, Priority}
use Rattle.j39_network.specs.declared.plan.unit_plan.UnitPlan.{UnitPlan}
use Rattle.j39_network.specs.declared.plan.timing.Timing.{Timing}
use Rattle.j39_vehicle.specs.declared.vehicle.Vehicle.{Vehicle}
use Rattle.j39_vehicle.specs.declared.vehicle.bus_plan.BusPlan.{BusPlan}
use Rattle.j39_vehicle.specs.declared.vehicle.forward.Forward.{Forward}
use Rattle.j39_vehicle.specs.declared.vehicle.forward.ForwardedSignal.{ForwardedSignal}
use Rattle.j39_vehicle.specs.declared.vehicle.gateway.Gateway.{Gateway}
use Rattle.j39_vehicle.specs.declared.vehicle.places.UnitAt.{UnitAt}
use Rattle.j39_vehicle.specs.declared.vehicle.vehicle_need.VehicleNeed.{VehicleNeed}
use Rattle.j39_vehicle_findings.specs.Buses.{group_at, requests_on, spn_at}
use Rattle.j39_vehicle_findings.specs.ForwardEnds.{input_flows, listed, output_flows}
use Rattle.j39_vehicle_findings.specs.ForwardTests.{copies, is_direct, is_input, is_output, write_one_signal}
use Rattle.j39_vehicle_findings.specs.MatchTests.{are_alike, has}
use Rattle.j39_vehicle_findings.specs.Traces.{first_agreeing, flows_of_need, is_from_origin, need_on_bus}
use Rattle.j39_vehicle_findings.specs.declared.finding.VehicleFinding.{VehicleFinding}
use Rattle.j39_vehicle_findings.specs.declared.finding.VehicleFinding.TheVariants.{NoInput, ManyInputs, NoOutput, ManyOutputs, LayoutDiffers, SignalDiffers, TwoForwards}
use Rattle.j39_vehicle_findings.specs.declared.finding.VehicleFinding.TheVariants.{ForwardLoop, NeedUnmet, SharedQueue}

-- ---- inputs and outputs

abbrev pub has_no_input : Vehicle → Forward → Bool
has_no_input v n = not (list_any (is_input v n) (input_flows v n))

abbrev pub has_many_inputs : Vehicle → Forward → Bool
has_many_inputs v n = nat_lt 1 (count_by (is_input v n) (input_flows v n))

abbrev pub has_no_output : Vehicle → Forward → Bool
has_no_output v n = not (list_any (is_output n) (output_flows v n))

abbrev pub has_many_outputs : Vehicle → Forward → Bool
has_many_outputs v n = nat_lt 1 (count_by (is_output n) (output_flows v n))

-- ---- layouts

abbrev pub same_byte : Option ℕ → Option ℕ → Bool
same_byte None None = true
same_byte (Some a) (Some b) = a == b
same_byte _ _ = false

abbrev pub is_selector : Selector → Option Selector → Bool
is_selector w None = false
is_selector w (Some u) = w.start == u.start && (w.bits == u.bits && w.value == u.value)

abbrev pub has_other_selector : GroupPlan → GroupPlan → Bool
has_other_selector g h = option_map_or (λ w. not (is_selector w g.when)) h.when false

abbrev pub has_other_records : GroupPlan → GroupPlan → Bool
has_other_records g h = list_any (λ t. t.repeated) h.signals.items && not (same_byte h.every g.every)

abbrev pub have_other_layouts : GroupPlan → GroupPlan → Bool
have_other_layouts g h = nat_lt g.length h.length || (nat_lt h.most g.most || (has_other_selector g h || has_other_records g h))

-- both groups of the forward are there, and pass the test
abbrev pub groups_pass : Vehicle → Forward → (GroupPlan → GroupPlan → Bool) → Bool
groups_pass v n test =
    option_map_or (λ g. option_map_or (test g) (group_at v.buses.items n.output) false) (group_at v.buses.items n.input) false

abbrev pub copies_other_layout : Vehicle → Forward → Bool
copies_other_layout v n = copies n && groups_pass v n have_other_layouts

-- ---- signals

abbrev pub are_unlike : GroupPlan → ℕ → SignalParts → GroupPlan → ℕ → SignalParts → Bool
are_unlike g i s h j t = not (are_alike s (spn_at g i) t (spn_at h j))

abbrev pub is_copied_otherwise : GroupPlan → GroupPlan → ℕ → SignalParts → Bool
is_copied_otherwise g h j t =
    option_map_or (λ i. option_map_or (λ s. are_unlike g i s h j t) (slice_get g.signals.items i) false) (first_agreeing g t) true

abbrev pub is_in_selector : SignalParts → Selector → Bool
is_in_selector t w = shares_bit t (record t { start = w.start; bits = w.bits })

abbrev pub is_other_source : GroupPlan → GroupPlan → ℕ → SignalParts → ForwardedSignal → Bool
is_other_source g h j t f =
    option_map_or (λ s. are_unlike g f.read s h j t || (f.exact && not (has s t))) (slice_get g.signals.items f.read) false

abbrev pub differs_from : GroupPlan → GroupPlan → ℕ → SignalParts → ForwardedSignal → Bool
differs_from g h j t f = is_other_source g h j t f || option_map_or (is_in_selector t) h.when false

abbrev pub is_written_otherwise : Forward → GroupPlan → GroupPlan → ℕ → SignalParts → Bool
is_written_otherwise n g h j t = list_any (λ f. f.written == j && differs_from g h j t f) (listed n)

abbrev pub is_other_signal : Forward → GroupPlan → GroupPlan → ℕ → SignalParts → Bool
is_other_signal n g h j t = (copies n && is_copied_otherwise g h j t) || is_written_otherwise n g h j t

abbrev pub signals_that_differ : Forward → ℕ → GroupPlan → GroupPlan → List VehicleFinding
signals_that_differ forward n g h = in_each (λ j t. found_if (is_other_signal forward g h j t) (SignalDiffers n j)) 0 h.signals.items

abbrev pub differences : Vehicle → ℕ → Forward → List VehicleFinding
differences v n forward =
    option_map_or (λ g. option_map_or (signals_that_differ forward n g) (group_at v.buses.items forward.output) [])
    (group_at v.buses.items forward.input) []

-- ---- several forwards

abbrev pub is_of_both : Forward → Forward → FlowPlan → Bool
is_of_both n m flow = is_output n flow && is_output m flow

abbrev pub feed_one_flow : Vehicle → Forward → Forward → Bool
feed_one_flow v n m = n.output.bus == m.output.bus
    && (n.output.group == m.output.group && (n.sender == m.sender && list_any (is_of_both n m) (output_flows v n)))

abbrev pub are_at_odds : Forward → Forward → Bool
are_at_odds n m = (is_direct n || is_direct m) || ((copies n || copies m) || write_one_signal n m)

abbrev pub are_two_forwards : Vehicle → Forward → Forward → Bool
are_two_forwards v n m = feed_one_flow v n m && are_at_odds n m

-- ---- needs

abbrev pub is_need_flow : Vehicle → VehicleNeed → ℕ → FlowPlan → Bool
is_need_flow v d f flow = meets (requests_on v.buses.items d.unit.bus) (need_on_bus d) flow && is_from_origin v d f

-- some value from this place on passes the test
unfoldable pub some_at : {A : Type 0} → (ℕ → A → Bool) → ℕ → List A → Bool
some_at test i [] = false
some_at test i (x ∷ xs) = test i x || some_at test (i + 1) xs

abbrev pub is_need_unmet : Vehicle → VehicleNeed → Bool
is_need_unmet v d = not (some_at (is_need_flow v d) 0 (flows_of_need v d))

-- ---- queues

abbrev pub is_any_queue : Queue → Bool
is_any_queue Any = true
is_any_queue Priority = false

abbrev pub has_any_queue : Gateway → ℕ → BusPlan → Bool
has_any_queue gateway b bus =
    list_any (λ (u : UnitAt). u.bus == b && option_map_or (λ (w : UnitPlan). is_any_queue w.queue) (slice_get bus.plan.units.items u.unit) false) gateway.units.items

abbrev pub has_timing : BusPlan → Bool
has_timing bus = option_map_or (λ (timing : Timing). true) bus.plan.timing false

abbrev pub may_share_queue : Gateway → ℕ → BusPlan → Bool
may_share_queue gateway b bus =
    has_timing bus && (nat_lt 1 (count_by (λ (u : UnitAt). u.bus == b) gateway.units.items) && has_any_queue gateway b bus)

abbrev pub shared_queues : List BusPlan → ℕ → Gateway → List VehicleFinding
shared_queues buses k gateway = in_each (λ b bus. found_if (may_share_queue gateway b bus) (SharedQueue k b)) 0 buses

-- ---- the whole list

-- of inputs and outputs
unfoldable pub end_findings : Vehicle → List VehicleFinding
end_findings v =
    each (has_no_input v) NoInput 0 v.forwards.items ++ (each (has_many_inputs v) ManyInputs 0 v.forwards.items
    ++ (each (has_no_output v) NoOutput 0 v.forwards.items ++ each (has_many_outputs v) ManyOutputs 0 v.forwards.items))

-- of what goes into what
unfoldable pub content_findings : Vehicle → List VehicleFinding
content_findings v =
    each (copies_other_layout v) LayoutDiffers 0 v.forwards.items
    ++ (in_each (differences v) 0 v.forwards.items ++ pairs (are_two_forwards v) TwoForwards v.forwards.items)

-- of loops, where it is reported of each forward whether it comes after itself
unfoldable pub loop_findings : List Bool → Vehicle → List VehicleFinding
loop_findings loops v = in_each (λ n forward. found_if (slice_index_or loops n false) (ForwardLoop n)) 0 v.forwards.items

unfoldable pub need_findings : Vehicle → List VehicleFinding
need_findings v = each (is_need_unmet v) NeedUnmet 0 v.needs.items

-- those of any plans, up to those of times
unfoldable pub path_findings : List Bool → Vehicle → List VehicleFinding
path_findings loops v = end_findings v ++ (content_findings v ++ (loop_findings loops v ++ need_findings v))

-- and behind those
unfoldable pub queue_findings : Vehicle → List VehicleFinding
queue_findings v = in_each (shared_queues v.buses.items) 0 v.gateways.items

-- all that is wrong with the vehicle, but for what its times show
unfoldable pub vehicle_findings : List Bool → Vehicle → List VehicleFinding
vehicle_findings loops v = path_findings loops v ++ queue_findings v
