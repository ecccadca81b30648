use Rattle.std.proofs.Common.{refl, subst}
use Rattle.j39_answer.specs.PlanAnswers.{IsBusAnswer}
use Rattle.j39_load.specs.BusTimes.{timing_of}
use Rattle.j39_line_bounds.proofs.EachTimes.{one_more, unanswered, untimed}
use Rattle.j39_line_bounds.proofs.times.times_with.Goals as goal

pub returns-in_default : goal.returns-in_default
returns-in_default c vs timed are =
    let known = c.args.known.now in
    absurd (timed (untimed c.args.line.now.plan known.plan c.args.line.now.plan.timing c.requires.is_plan.has_timing refl
    (unanswered known.plan known.answer c.requires.is_answer c.in_default.is)))

pub variant_times-requires-clause-load : goal.variant_times-requires-clause-load
variant_times-requires-clause-load c =
    let plan = c.args.known.now.plan in
    subst (IsBusAnswer plan (timing_of plan)) c.in-Some.is c.requires.is_answer.bus

pub returns : goal.returns
returns c vs timed are =
    one_more c.args.line.now vs c.args.variant.now c.args.so_far c.in_ok-here.here c.in_ok-times.times c.in_ok-here.ensures
    (c.in_ok-times.ensures c.args.line.now) are
