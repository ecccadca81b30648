-- How transfers end: whoever goes on with them comes to their end, whatever is lost and whoever hears nothing in time. It says
-- nothing of time.
use Rattle.std.specs.Prelude.{◌≡◌, ℕ, ◌≤◌, List, [], ◌∷◌, length, All, Some}
use Rattle.j39_network.specs.declared.plan.Plan.{Plan}
use Rattle.j39_network.specs.declared.steps.Step.{Step}
use Rattle.j39_network.specs.declared.steps.Step.TheVariants.{Up, Down, Give, Ask, Begin, Send}
use Rattle.j39_world.specs.Transfers.{Outgoing}
use Rattle.j39_world.specs.World.{World}
use Rattle.j39_world.specs.Run.{RunsThrough}

-- it goes on with what was begun: no unit is switched, sends or hears claims, and none begins a message or sends one alone
abbrev pub IsOfTransfers : Step → Type 0
IsOfTransfers (Up u) = ⊥
IsOfTransfers (Down u) = ⊥
IsOfTransfers (Give u v) = ⊥
IsOfTransfers (Ask u) = ⊥
IsOfTransfers (Begin f bytes) = ⊥
IsOfTransfers (Send f bytes) = ⊥
IsOfTransfers _ = Unit {0}

pub record TransfersEnd (plan : Plan) (w : World) : Type 0 where
  -- no more of these steps than this run through from here, in whatever order, whatever is lost and whoever hears nothing in time
  pub bound : ℕ
  pub bounded : (steps : List Step) (after : World) → All IsOfTransfers steps → RunsThrough plan w steps after → length steps ≤ bound
  -- while a unit is between its Begin and its Rest, one of them runs through: so where none does, each message is at its end
  pub goes_on : (u : ℕ) (o : Outgoing) → w.sessions u ≡ Some o
      → (step : Step) × IsOfTransfers step × ((after : World) × RunsThrough plan w (step ∷ []) after)
