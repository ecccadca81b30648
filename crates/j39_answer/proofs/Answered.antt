-- What is known of a plan has what is wrong with its load.
use Rattle.std.proofs.Common.{◌≡◌, [], Option, Some, None, length, refl, sym, ap, subst}
use Rattle.std.specs.Option.{option_map_or}
use Rattle.j39_network.specs.declared.plan.Plan.{Plan}
use Rattle.j39_network.specs.declared.plan.timing.Timing.{Timing}
use Rattle.j39_load.specs.BusTimes.{timing_of}
use Rattle.j39_load.specs.LoadAnswers.{IsLoadAnswer}
use Rattle.j39_load.specs.LoadFindings.{AreLoadFindings}
use Rattle.j39_load.specs.declared.findings.load_answer.LoadAnswer.{LoadAnswer}
use Rattle.j39_answer.specs.PlanAnswers.{IsBusAnswer, IsPlanAnswer, load_findings_in}
use Rattle.j39_answer.specs.declared.plan_answer.PlanAnswer.{PlanAnswer}

wrong_by : (plan : Plan) (timing : Option Timing) (load : Option LoadAnswer) → IsBusAnswer plan timing load
    → AreLoadFindings plan timing (option_map_or (λ (l : LoadAnswer). l.findings.items) load [])
wrong_by plan None None is = refl
wrong_by plan None (Some load) is = absurd is
wrong_by plan (Some timing) None is = absurd is
wrong_by plan (Some timing) (Some load) (is, count) = (is.stays, load.delays.items, is.asks, is.found)

pub load_wrong : (plan : Plan) (answer : PlanAnswer) → IsPlanAnswer plan answer → AreLoadFindings plan (timing_of plan) (load_findings_in answer)
load_wrong plan answer is = wrong_by plan (timing_of plan) answer.load is.bus

-- the bus of a plan of whose load this is known: with the timing of the load
pub record KnownBus (plan : Plan) (timing : Option Timing) (load : LoadAnswer) : Type 0 where
  pub timed : timing ≡ Some load.loads.timing
  pub is_load : IsLoadAnswer plan load.loads.timing load
  pub count : length load.delays.items ≡ length plan.flows.items

pub known_bus : (plan : Plan) (timing : Option Timing) (load : LoadAnswer) → IsBusAnswer plan timing (Some load) → KnownBus plan timing load
known_bus plan None load is = absurd is
known_bus plan (Some timing) load (is, count) =
    record { timed = ap Some (sym is.timed); is_load = subst (λ (t : Timing). IsLoadAnswer plan t load) (sym is.timed) is; count = count }

-- nothing is known of the bus of a plan of whose load nothing is
pub unknown_bus : (plan : Plan) (timing : Option Timing) → IsBusAnswer plan timing None → timing ≡ None
unknown_bus plan None is = refl
unknown_bus plan (Some timing) is = absurd is
