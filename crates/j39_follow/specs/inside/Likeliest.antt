-- The likeliest unit of the first ones of a plan.
use Rattle.std.specs.Prelude.{◌≡◌, ◌<◌, ◌≤◌, ℕ, List, Option, Some, None}
use Rattle.std.specs.List.{slice_get}
use Rattle.j39_id.specs.declared.frame.Frame.{Frame}
use Rattle.j39_network.specs.declared.plan.Plan.{Plan}
use Rattle.j39_network.specs.declared.plan.unit_plan.UnitPlan.{UnitPlan}
use Rattle.j39_follow.specs.Who.{MayHold}

-- this unit may hold the address, and of the first so many ones none is before it
pub record IsBest (plan : Plan) (many : ℕ) (frames : List Frame) (address u : ℕ) : Type 0 where
  pub unit : UnitPlan
  pub unit_is : slice_get plan.units.items u ≡ Some unit
  pub may : MayHold plan frames address u unit
  pub least : (v : ℕ) (other : UnitPlan) → v < many → slice_get plan.units.items v ≡ Some other → MayHold plan frames address v other
      → unit.name ≤ other.name
  pub first : (v : ℕ) (other : UnitPlan) → v < u → slice_get plan.units.items v ≡ Some other → MayHold plan frames address v other
      → unit.name < other.name

abbrev pub IsBestOf : Plan → ℕ → List Frame → ℕ → Option ℕ → Type 0
IsBestOf plan many frames address (Some u) = (u < many) × IsBest plan many frames address u
IsBestOf plan many frames address None =
    (v : ℕ) (other : UnitPlan) → v < many → slice_get plan.units.items v ≡ Some other → ¬ MayHold plan frames address v other

-- the NAME is below that of the best unit, if there is one
abbrev pub IsBelowBest : Plan → ℕ → Option ℕ → Type 0
IsBelowBest plan name best = (b : ℕ) (other : UnitPlan) → best ≡ Some b → slice_get plan.units.items b ≡ Some other → name < other.name

-- there is one, whose NAME isn't above this one
pub record IsNotBelow (plan : Plan) (name : ℕ) (best : Option ℕ) : Type 0 where
  pub place : ℕ
  pub best_is : best ≡ Some place
  pub above : (other : UnitPlan) → slice_get plan.units.items place ≡ Some other → other.name ≤ name
