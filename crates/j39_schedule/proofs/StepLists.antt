-- The lines of steps, one after another.
use Rattle.std.proofs.Common.{◌≡◌, ℕ, ◌+◌, ◌<◌, List, ◌++◌, length, drop, get_or, refl}
use Rattle.std.proofs.lemmas.List.{drop_more}
use Rattle.j39_network.specs.declared.plan.Plan.{Plan}
use Rattle.j39_network.specs.declared.steps.Step.{Step}
use Rattle.j39_schedule.specs.StepLines.{step_line, step_lines}

-- the lines from a step on are its own and those of the steps behind it
pub lines_from : (plan : Plan) (steps : List Step) (i : ℕ) (step : Step) → i < length steps → step ≡ get_or steps i step
    → step_lines plan (drop i steps) ≡ step_line plan step ++ step_lines plan (drop (i + 1) steps)
unfolding step_lines
lines_from plan steps i step more is = rw (drop_more steps i step more, ← is) refl
