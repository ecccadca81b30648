-- Steps that are not refused can be done.
use Rattle.std.specs.Prelude.{◌≡◌, None}
use Rattle.j39_network.specs.declared.plan.Plan.{Plan}
use Rattle.j39_network.specs.declared.steps.Step.{Step}
use Rattle.j39_world.specs.World.{World}
use Rattle.j39_world.specs.Run.{refusal, StepsTo}

-- each step that is not refused leads to some world
abbrev pub LeadsOn : Plan → World → Type 0
LeadsOn plan w = (step : Step) → refusal plan w step ≡ None → (new : World) × StepsTo plan w step new
