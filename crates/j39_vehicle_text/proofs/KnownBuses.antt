-- What is known of the plan of a bus has its delays and its load.
use Rattle.std.proofs.Common.{[], Option, Some, None, refl, ap, ◌∙◌}
use Rattle.std.specs.Option.{option_map_or}
use Rattle.j39_answer.specs.PlanAnswers.{IsBusAnswer, IsPlanAnswer, delays_in}
use Rattle.j39_answer.specs.declared.plan_answer.PlanAnswer.{PlanAnswer}
use Rattle.j39_load.specs.AskedLoads.{asked_in}
use Rattle.j39_load.specs.BusTimes.{timing_of}
use Rattle.j39_load.specs.declared.findings.load_answer.LoadAnswer.{LoadAnswer}
use Rattle.j39_network.specs.declared.plan.Plan.{Plan}
use Rattle.j39_network.specs.declared.plan.timing.Timing.{Timing}
use Rattle.j39_plan_text.specs.LoadLines.{load_line}
use Rattle.j39_vehicle_times.specs.BusDelays.{AreDelaysOn}
use Rattle.j39_vehicle_text.specs.VehicleBlocks.{IsLoadOf}

delays_by : (plan : Plan) (timing : Option Timing) (load : Option LoadAnswer) → IsBusAnswer plan timing load
    → AreDelaysOn plan timing (option_map_or (λ (l : LoadAnswer). l.delays.items) load [])
delays_by plan None None is = refl
delays_by plan None (Some load) is = absurd is
delays_by plan (Some timing) None is = absurd is
delays_by plan (Some timing) (Some load) (is, count) = (is.stays, is.asks)

-- the delays of the flows of its bus
pub delays_known : (plan : Plan) (answer : PlanAnswer) → IsPlanAnswer plan answer → AreDelaysOn plan (timing_of plan) (delays_in answer)
delays_known plan answer is = delays_by plan (timing_of plan) answer.load is.bus

-- how full its bus is; nothing is said of a bus of which nothing is known
pub load_known : (plan : Plan) (timing : Option Timing) (load : LoadAnswer) → IsBusAnswer plan timing (Some load)
    → IsLoadOf plan timing (load_line load.loads.timing (asked_in load.loads))
load_known plan None load is = absurd is
load_known plan (Some timing) load (is, count) = (
  is.stays,
  is.asks.standing,
  ap (λ (t : Timing). load_line t (asked_in load.loads)) is.timed ∙ ap (load_line timing) is.asked,
)

pub nothing_known : (plan : Plan) (timing : Option Timing) → IsBusAnswer plan timing None → IsLoadOf plan timing []
nothing_known plan None is = refl
nothing_known plan (Some timing) is = absurd is
