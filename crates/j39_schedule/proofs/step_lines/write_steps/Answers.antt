use Rattle.std.proofs.Common.{append_assoc}
use Rattle.std.proofs.lemmas.List.{append-nil, drop_all}
use Rattle.j39_schedule.specs.StepLines.{step_lines}
use Rattle.j39_schedule.proofs.StepLists.{lines_from}
use Rattle.j39_schedule.proofs.step_lines.write_steps.Goals as goal

pub loop-step-preserved : goal.loop-step-preserved
loop-step-preserved c =
    let next = lines_from c.args.plan.now c.args.steps.now c.loop-step.step-index c.step-item.result c.loop-step-test.true c.step-item.is in
    rw (c.in_ok-write_line.ensures, append_assoc) (rw next at c.loop-step.invariant)

pub returns : goal.returns
unfolding step_lines
returns c =
    let done = drop_all c.loop-step.step-index c.args.steps.now c.loop-step-test.false in
    rw (done, append-nil) at c.loop-step.invariant
