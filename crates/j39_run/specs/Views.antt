-- What is seen of a bus at the end of a run.
use Rattle.std.specs.Prelude.{◌≡◌, ◌↔◌, ℕ, Bool, IsTrue, cond, List, length, map, Option, Some, None}
use Rattle.std.specs.List.{range_with_len}
use Rattle.j39_claim.specs.ClaimRule.{ClaimState}
use Rattle.j39_network.specs.declared.plan.Plan.{Plan}
use Rattle.j39_world.specs.Sent.{Sent}
use Rattle.j39_world.specs.Sound.{IsQuiet}
use Rattle.j39_world.specs.Transfers.{Reported}
use Rattle.j39_world.specs.World.{World}
use Rattle.j39_run.specs.declared.unit_state.UnitState.{UnitState}
use Rattle.j39_run.specs.declared.unit_state.UnitState.TheVariants.{Off, NoAddress, At}

-- what is seen of a unit that is on
abbrev pub holding : Option ℕ → UnitState
holding None = NoAddress
holding (Some a) = At a

-- what is seen of a unit
abbrev pub unit_state : ClaimState → UnitState
unit_state s = cond s.on (holding s.address) Off

-- what is seen of a world
pub record View : Type 0 where
  -- all frames that were sent, in order
  pub frames : List Sent
  -- what each unit of the plan is
  pub units : List UnitState
  -- whether no claim is undelivered
  pub settled : Bool
  -- all messages that were received whole, in order
  pub reports : List Reported

-- this is seen of this world of the plan
pub record Shows (plan : Plan) (w : World) (view : View) : Type 0 where
  pub frames : view.frames ≡ w.frames
  pub units : view.units ≡ map (λ u. unit_state (w.stations u)) (range_with_len 0 (length plan.units.items))
  pub settled : IsTrue view.settled ↔ IsQuiet w.claims
  pub reports : view.reports ≡ w.reports
