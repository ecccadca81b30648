use Rattle.std.proofs.Common.{◌≡◌, [], Option, Some, subst}
use Rattle.j39_findings.specs.Findings.{Clean}
use Rattle.j39_network.specs.declared.plan.Plan.{Plan}
use Rattle.j39_findings.specs.declared.checking.finding.Finding.TheVariants.{SameName}
use Rattle.j39_network.specs.declared.plan.timing.Timing.{Timing}
use Rattle.j39_load.specs.BusTimes.{timing_of}
use Rattle.j39_load.specs.LoadFindings.{AreLoadFindings}
use Rattle.j39_world.specs.SoundPlan.{IsSound}
use Rattle.j39_plan_text.specs.Certified.{IsSoundInTime}
use Rattle.j39_plan_text.proofs.certificate.clean_plans_are_certified.Goals as goal

-- what is found of the load, where something is known of the bus
found : (plan : Plan) (timing : Timing) → AreLoadFindings plan (timing_of plan) [] → timing_of plan ≡ Some timing → AreLoadFindings plan (Some timing) []
found plan timing none stated = subst (λ (t : Option Timing). AreLoadFindings plan t []) stated none

pub returns : goal.returns
returns c = λ checked clean calm.
    let each : (plan : Plan) → Clean plan → AreLoadFindings plan (timing_of plan) [] → IsSound plan → IsSoundInTime plan = λ plan clean none sound.
    record {
      sound = sound;
      in_time = λ timing stated. c.delays_are_bounds.ensures.checked plan timing (found plan timing none stated);
      fresh = λ timing stated. c.needs_stay_fresh.ensures plan timing clean (found plan timing none stated);
      read = λ timing stated. c.needed_values_are_read_in_time.ensures plan timing clean (found plan timing none stated);
      kept = λ timing stated. c.kept_plans_are_in_time.ensures.sound plan timing clean (found plan timing none stated);
      damaged = λ timing stated. c.kept_plans_are_in_time.ensures.with_errors plan timing clean (found plan timing none stated);
      damaged_in_any_order = λ timing stated. c.kept_plans_are_in_time.ensures.damaged_in_any_order plan timing clean (found plan timing none stated);
      broadcasts = λ timing stated. c.kept_plans_meet_deadlines.ensures plan timing clean (found plan timing none stated);
      receivers = λ timing stated. c.kept_plans_lose_no_receiver.ensures plan timing clean (found plan timing none stated);
      values = λ timing stated. c.kept_plans_bring_values_in_time.ensures plan timing clean (found plan timing none stated);
    } in
    record {
      plan_holds = each checked clean calm (c.clean_plans_are_sound.ensures.sound checked clean);
      vehicles_hold = λ vehicle is.
          each vehicle (c.serial_numbers_change_nothing.ensures.clean checked vehicle is clean)
          ((c.serial_numbers_change_no_load.ensures checked vehicle is (λ i j. clean (SameName i j))).findings [] calm)
          (c.clean_plans_are_sound.ensures.vehicles checked clean vehicle is);
    }
