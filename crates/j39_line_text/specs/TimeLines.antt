-- The lines that report of the times of a line of vehicles.
use Rattle.std.specs.Prelude.{ℕ, ◌*◌, List, [], ◌∷◌, ◌++◌, codes, Option}
use Rattle.std.specs.Option.{option_map_or}
use Rattle.j39_load.specs.LineLists.{lines_of_each}
use Rattle.j39_load.specs.Loads.{bits_of_second}
use Rattle.j39_network.specs.declared.plan.Plan.{Plan}
use Rattle.j39_network.specs.declared.plan.flow_plan.FlowPlan.{FlowPlan}
use Rattle.j39_network.specs.declared.plan.need_plan.NeedPlan.{NeedPlan}
use Rattle.j39_network.specs.declared.plan.pace.Pace.{Pace}
use Rattle.j39_network.specs.declared.plan.timing.Timing.{Timing}
use Rattle.j39_line_bounds.specs.LineTimes.{time_of_flow, time_of_need}
use Rattle.j39_line_bounds.specs.declared.times.FlowTime.{FlowTime}
use Rattle.j39_line_bounds.specs.declared.times.FlowTime.TheVariants as flow
use Rattle.j39_line_bounds.specs.declared.times.LineTimes.{LineTimes}
use Rattle.j39_line_bounds.specs.declared.times.NeedTime.{NeedTime}
use Rattle.j39_line_bounds.specs.declared.times.NeedTime.TheVariants as need
use Rattle.j39_plan_text.specs.LoadLines.{age_text, flow_text, known_delay_text, time_text}
use Rattle.j39_text.specs.Labels.{need_text}
use Rattle.j39_text.specs.Texts.{field, place_field}

-- that no possible variant has a flow, or its delay
unfoldable pub flow_time_text : Timing → Option Pace → FlowTime → List ℕ
flow_time_text timing pace flow.NoVariant = codes " no variant"
flow_time_text timing pace (flow.Reported delay) = known_delay_text timing pace delay

unfoldable pub line_flow_line : Plan → Timing → LineTimes → ℕ → FlowPlan → List ℕ
line_flow_line plan timing times f planned =
    flow_text plan f planned ++ (flow_time_text timing planned.pace (time_of_flow times f) ++ 10 ∷ [])

unfoldable pub youngest_text : Option ℕ → List ℕ
youngest_text youngest = option_map_or (place_field (codes " flow ")) youngest []

-- that no possible variant asks for what is needed, that it isn't met in one, or how old it is, of a limit
unfoldable pub need_time_text : ℕ → NeedTime → List ℕ
need_time_text limit need.NoVariant = codes " no variant"
need_time_text limit need.Unmet = time_text (codes " unmet of ") limit
need_time_text limit (need.Age age youngest) = age_text limit age ++ youngest_text youngest

-- a need, where it asks for an age
unfoldable pub line_need_line : Plan → LineTimes → ℕ → NeedPlan → List ℕ
line_need_line plan times d needed = option_map_or
    (λ within. need_text plan d needed ++ (need_time_text (1000 * within) (time_of_need times d) ++ 10 ∷ [])) needed.within []

-- each flow of the file with its delay, each need that asks for an age with it, and the load
unfoldable pub line_times_text : Plan → Timing → LineTimes → List ℕ
line_times_text plan timing times = lines_of_each (line_flow_line plan timing times) 0 plan.flows.items
    ++ (lines_of_each (line_need_line plan times) 0 plan.needs.items
    ++ (field (codes "load ") times.load ++ (field (codes " of ") (bits_of_second timing.bitrate) ++ 10 ∷ [])))
