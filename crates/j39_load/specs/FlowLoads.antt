-- What each flow of a plan asks of its bus, with the requests that ask for it.
use Rattle.std.specs.Prelude.{Bool, List, map, Option}
use Rattle.std.specs.List.{slice_get}
use Rattle.std.specs.Option.{option_and_then, option_map}
use Rattle.j39_network.specs.declared.plan.Plan.{Plan}
use Rattle.j39_network.specs.declared.plan.flow_plan.FlowPlan.{FlowPlan}
use Rattle.j39_network.specs.declared.plan.group_plan.GroupPlan.{GroupPlan}
use Rattle.j39_network.specs.declared.plan.pace.Pace.{Pace}
use Rattle.j39_network.specs.declared.plan.request_plan.RequestPlan.{RequestPlan}
use Rattle.j39_network.specs.declared.plan.timing.Timing.{Timing}
use Rattle.j39_network.specs.declared.plan.unit_plan.UnitPlan.{UnitPlan}
use Rattle.j39_load.specs.declared.loads.flow_load.FlowLoad.{FlowLoad}
use Rattle.j39_load.specs.AnswerStreams.{askers_of, load_for}
use Rattle.j39_load.specs.Loads.{flow_load}

abbrev pub asked_load : Timing → List RequestPlan → List UnitPlan → (UnitPlan → Bool) → FlowPlan → Pace → GroupPlan → FlowLoad
asked_load timing requests units stays flow pace group = load_for timing pace (askers_of requests flow) (flow_load timing units stays flow pace group)

-- what a flow asks of the bus, where it is known how often it is sent
abbrev pub load_of_flow : Timing → Plan → (UnitPlan → Bool) → FlowPlan → Option FlowLoad
load_of_flow timing plan stays flow =
    option_and_then (λ pace. option_map (asked_load timing plan.requests.items plan.units.items stays flow pace) (slice_get plan.groups.items flow.group)) flow.pace

-- what each flow asks of the bus, in order
abbrev pub loads_of : Timing → Plan → (UnitPlan → Bool) → List (Option FlowLoad)
loads_of timing plan stays = map (load_of_flow timing plan stays) plan.flows.items
