-- What a run that shows a conflict of two fixed units comes to (SAE J1939-81).
use Rattle.std.specs.Prelude.{◌≡◌, ℕ, true, List, None}
use Rattle.j39_network.specs.declared.plan.Plan.{Plan}
use Rattle.j39_network.specs.declared.steps.Step.{Step}
use Rattle.j39_world.specs.World.{World, all_off}
use Rattle.j39_world.specs.Run.{Run, RunsThrough}
use Rattle.j39_world.specs.Sound.{IsQuiet}

-- no claim is undelivered, and the unit is on and holds no address
pub record IsLeftWithoutAddress (unit : ℕ) (w : World) : Type 0 where
  pub quiet : IsQuiet w.claims
  pub on : (w.stations unit).on ≡ true
  pub without : (w.stations unit).address ≡ None

-- the steps can be run from the first world, and whoever runs them meets no refusal and leaves the unit without an address
pub record LeavesWithoutAddress (plan : Plan) (steps : List Step) (unit : ℕ) : Type 0 where
  pub possible : (w : World) × Run plan all_off steps w
  pub shown : (w : World) → Run plan all_off steps w → RunsThrough plan all_off steps w × IsLeftWithoutAddress unit w
