-- How a bus settles: whoever goes on delivering what is undelivered comes to an end. It says nothing of time.
use Rattle.std.specs.Prelude.{◌≢◌, ℕ, ◌≤◌, List, [], ◌∷◌, length, All}
use Rattle.j39_network.specs.declared.plan.Plan.{Plan}
use Rattle.j39_network.specs.declared.steps.Step.{Step}
use Rattle.j39_network.specs.declared.steps.Step.TheVariants.{Give}
use Rattle.j39_world.specs.World.{World}
use Rattle.j39_world.specs.Run.{RunsThrough}

-- a claim, a Cannot or a request is delivered
abbrev pub IsGive : Step → Type 0
IsGive (Give u v) = Unit {0}
IsGive _ = ⊥

pub record Settles (plan : Plan) (w : World) : Type 0 where
  -- no more Gives than this run through from here, in whatever order and with whatever lawful choices
  pub bound : ℕ
  pub bounded : (gives : List Step) (after : World) → All IsGive gives → RunsThrough plan w gives after → length gives ≤ bound
  -- the oldest of what is undelivered between two can be delivered: so where no Give runs through, nothing is undelivered
  pub deliverable : (u v : ℕ) → w.claims u v ≢ [] → (after : World) × RunsThrough plan w (Give u v ∷ []) after
