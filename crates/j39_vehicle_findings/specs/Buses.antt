-- What the plan of a bus has, by the place of the bus: nothing where there is none.
use Rattle.std.specs.Prelude.{ℕ, List, [], Option}
use Rattle.std.specs.List.{slice_get}
use Rattle.std.specs.Option.{option_and_then, option_map_or}
use Rattle.j39_network.specs.declared.plan.flow_plan.FlowPlan.{FlowPlan}
use Rattle.j39_network.specs.declared.plan.group_plan.GroupPlan.{GroupPlan}
use Rattle.j39_network.specs.declared.plan.meaning.Meaning.{Meaning}
use Rattle.j39_network.specs.declared.plan.request_plan.RequestPlan.{RequestPlan}
use Rattle.j39_vehicle.specs.declared.vehicle.bus_plan.BusPlan.{BusPlan}
use Rattle.j39_vehicle.specs.declared.vehicle.places.GroupAt.{GroupAt}

abbrev pub flows_on : List BusPlan → ℕ → List FlowPlan
flows_on buses b = option_map_or (λ bus. bus.plan.flows.items) (slice_get buses b) []

abbrev pub requests_on : List BusPlan → ℕ → List RequestPlan
requests_on buses b = option_map_or (λ bus. bus.plan.requests.items) (slice_get buses b) []

abbrev pub groups_on : List BusPlan → ℕ → List GroupPlan
groups_on buses b = option_map_or (λ bus. bus.plan.groups.items) (slice_get buses b) []

abbrev pub group_at : List BusPlan → GroupAt → Option GroupPlan
group_at buses g = slice_get (groups_on buses g.bus) g.group

-- the number of a signal of a group (SPN), where it has one
abbrev pub spn_at : GroupPlan → ℕ → Option ℕ
spn_at group s = option_and_then (λ (m : Meaning). m.spn) (slice_get group.meanings.items s)
