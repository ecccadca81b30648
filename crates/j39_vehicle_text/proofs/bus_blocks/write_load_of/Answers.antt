use Rattle.std.proofs.Common.{[], sym, subst}
use Rattle.std.proofs.lemmas.List.{append-nil}
use Rattle.j39_answer.specs.PlanAnswers.{IsBusAnswer}
use Rattle.j39_load.specs.AskedLoads.{asked_in}
use Rattle.j39_load.specs.BusTimes.{timing_of}
use Rattle.j39_plan_text.specs.LoadLines.{load_line}
use Rattle.j39_vehicle_text.proofs.KnownBuses.{load_known, nothing_known}
use Rattle.j39_vehicle_text.proofs.bus_blocks.write_load_of.Goals as goal

pub returns-in_default : goal.returns-in_default
returns-in_default c plan is =
    ([], nothing_known plan (timing_of plan) (subst (IsBusAnswer plan (timing_of plan)) c.in_default.is is.bus), sym (append-nil c.args.text.now))

pub returns : goal.returns
returns c plan is =
    let load = c.in-Some.load in (
      load_line load.loads.timing (asked_in load.loads),
      load_known plan (timing_of plan) load (subst (IsBusAnswer plan (timing_of plan)) c.in-Some.is is.bus),
      c.in_ok-write_load.ensures,
    )
