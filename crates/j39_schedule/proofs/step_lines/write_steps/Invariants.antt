use Rattle.std.proofs.Common.{◌≡◌, ◌++◌, drop}
use Rattle.j39_schedule.specs.StepLines.{step_lines}
use Rattle.j39_schedule.proofs.step_lines.write_steps.Given as goal

abbrev pub invariant-loop-step : goal.invariant-loop-step
invariant-loop-step l = l.text ++ step_lines l.plan (drop l.step-index l.steps) ≡ l.initial.text ++ step_lines l.plan l.steps
