-- A run that shows the conflict of two fixed units with one address (SAE J1939-81): both are switched on, and each hears
-- the other's claim, so that the one with the larger NAME is left without an address.
use Rattle.std.specs.Prelude.{◌≡◌, ◌≢◌, ℕ, ◌<◌, ◌⊎◌, List, [], ◌∷◌, Bool, not, ◌&&◌, nat_lt, if◌then◌else◌, Option, Some, None}
use Rattle.std.specs.List.{slice_get}
use Rattle.j39_network.specs.declared.plan.Plan.{Plan}
use Rattle.j39_network.specs.declared.plan.unit_plan.UnitPlan.{UnitPlan}
use Rattle.j39_findings.specs.declared.checking.finding.Finding.{Finding}
use Rattle.j39_findings.specs.declared.checking.finding.Finding.TheVariants.{SameFixedAddress}
use Rattle.j39_network.specs.declared.steps.Step.{Step}
use Rattle.j39_network.specs.declared.steps.Step.TheVariants.{Up, Give}
use Rattle.j39_network.specs.Kinds.{MayBeOne, may_be_one}
use Rattle.j39_search.specs.ListPlaces.{PairAt}
use Rattle.j39_findings.specs.Findings.{HaveSameFixedAddress}
use Rattle.j39_findings.specs.Found.{have_same_fixed_address}

-- the steps, by the places of the unit with the larger NAME and of the other
abbrev pub conflict_steps : ℕ → ℕ → List Step
conflict_steps larger smaller = Up larger ∷ Up smaller ∷ Give smaller larger ∷ Give larger smaller ∷ []

-- ---- in plain words

-- units at two places, the first below the second, are fixed, have one address and can't be one
abbrev pub AreInConflict : Plan → ℕ → ℕ → Type 0
AreInConflict plan = PairAt (λ u v. HaveSameFixedAddress u v × (¬ MayBeOne u v)) plan.units.items

-- the finding reports of two units that are in conflict
abbrev pub IsOfConflict : Plan → Finding → Type 0
IsOfConflict plan finding = (i : ℕ) × (j : ℕ) × (finding ≡ SameFixedAddress i j) × AreInConflict plan i j

-- the NAME of the unit at the first place is larger than that of the unit at the second
pub record HasLargerName (plan : Plan) (larger smaller : ℕ) : Type 0 where
  pub one : UnitPlan
  pub other : UnitPlan
  pub one_is : slice_get plan.units.items larger ≡ Some one
  pub other_is : slice_get plan.units.items smaller ≡ Some other
  pub above : other.name < one.name

-- the steps show the conflict of which the finding reports
pub record IsConflictRun (plan : Plan) (finding : Finding) (steps : List Step) : Type 0 where
  pub states : IsOfConflict plan finding
  pub larger : ℕ
  pub smaller : ℕ
  pub both : (finding ≡ SameFixedAddress larger smaller) ⊎ (finding ≡ SameFixedAddress smaller larger)
  pub order : HasLargerName plan larger smaller
  pub steps_are : steps ≡ conflict_steps larger smaller

-- ---- as a test

unfoldable pub are_in_conflict : UnitPlan → UnitPlan → Bool
are_in_conflict u v = have_same_fixed_address u v && not (may_be_one u v)

-- the run of these units at these places, by which of them has the larger NAME
unfoldable pub steps_between : ℕ → ℕ → UnitPlan → UnitPlan → List Step
steps_between i j u v = if nat_lt u.name v.name then conflict_steps j i else conflict_steps i j

-- the run of units at these places, where they are in conflict
unfoldable pub run_of_units : ℕ → ℕ → Option UnitPlan → Option UnitPlan → Option (List Step)
run_of_units i j None v = None
run_of_units i j (Some u) None = None
run_of_units i j (Some u) (Some v) = if are_in_conflict u v then Some (steps_between i j u v) else None

unfoldable pub run_of_places : Plan → ℕ → ℕ → Option (List Step)
run_of_places plan i j =
    if nat_lt i j then run_of_units i j (slice_get plan.units.items i) (slice_get plan.units.items j) else None

-- the run that shows what the finding reports, where it reports of a conflict
unfoldable pub conflict_run : Plan → Finding → Option (List Step)
conflict_run plan (SameFixedAddress i j) = run_of_places plan i j
conflict_run plan _ = None

-- ---- the law

-- the test gives a run exactly where the finding reports of a conflict, and then the one that shows it
pub record RunsAreExact (plan : Plan) (finding : Finding) : Type 0 where
  pub sound : (steps : List Step) → conflict_run plan finding ≡ Some steps → IsConflictRun plan finding steps
  pub complete : IsOfConflict plan finding → conflict_run plan finding ≢ None
