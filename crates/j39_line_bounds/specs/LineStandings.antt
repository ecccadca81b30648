-- Which units of a line of vehicles stay, in each of some variants that has them, and in each possible one.
use Rattle.std.specs.Prelude.{◌≡◌, ℕ, ◌<◌, List, length, slice_index_or, Some, None}
use Rattle.j39_network.specs.PlannedUnits.{units_of}
use Rattle.j39_network.specs.Staying.{StaysBeside}
use Rattle.j39_network.specs.declared.plan.Plan.{Plan}
use Rattle.j39_variants.specs.VariantPlans.{IsVariantPlan, place_at, unit_places}
use Rattle.j39_variants.specs.declared.line.ProductLine.{ProductLine}
use Rattle.j39_line_findings.specs.PossibleVariants.{IsPossible}
use Rattle.j39_line_bounds.specs.declared.standing.LineStanding.{LineStanding}
use Rattle.j39_line_bounds.specs.declared.standing.LineStanding.TheVariants.{NoVariant, Stays, MayMove}

-- ---- a unit of the file in one variant

-- it has this place in the variant's plan
abbrev pub HasPlace : ProductLine → List ℕ → ℕ → ℕ → Type 0
HasPlace line variant u place = place_at (unit_places line variant) u ≡ Some place

-- the variant has it, or hasn't
abbrev pub HasLineUnit : ProductLine → List ℕ → ℕ → Type 0
HasLineUnit line variant u = (place : ℕ) × HasPlace line variant u place

abbrev pub LacksUnit : ProductLine → List ℕ → ℕ → Type 0
LacksUnit line variant u = place_at (unit_places line variant) u ≡ None

-- it stays in the variant's plan, at its place there, where it has one
abbrev pub StaysIn : ProductLine → List ℕ → ℕ → Type 0
StaysIn line variant u =
    (plan : Plan) (place : ℕ) → IsVariantPlan line variant plan → HasPlace line variant u place → StaysBeside plan.strangers (units_of plan) place

-- the variant has it, and it doesn't stay there
pub record MayMoveIn (line : ProductLine) (variant : List ℕ) (u : ℕ) : Type 0 where
  pub place : ℕ
  pub has_place : HasPlace line variant u place
  pub plan : Plan
  pub is_plan : IsVariantPlan line variant plan
  pub moves : ¬ StaysBeside plan.strangers (units_of plan) place

-- ---- in all variants of a kind

-- what is reported of it: none of these variants has it; some do, and it stays in each of them; or in one of them it may move
abbrev pub IsStandingAmong : (List ℕ → Type 0) → ProductLine → ℕ → LineStanding → Type 0
IsStandingAmong These line u NoVariant = (variant : List ℕ) → These variant → LacksUnit line variant u
IsStandingAmong These line u Stays = ((variant : List ℕ) × These variant × HasLineUnit line variant u)
    × ((variant : List ℕ) → These variant → StaysIn line variant u)
IsStandingAmong These line u MayMove = (variant : List ℕ) × These variant × MayMoveIn line variant u

-- of each unit of the file, in order
pub record AreStandingsAmong (These : List ℕ → Type 0) (line : ProductLine) (standings : List LineStanding) : Type 0 where
  pub count : length standings ≡ length line.plan.units.items
  pub each : (u : ℕ) → u < length standings → IsStandingAmong These line u (slice_index_or standings u NoVariant)

-- in the possible variants of the line
abbrev pub IsLineStanding : ProductLine → ℕ → LineStanding → Type 0
IsLineStanding line = IsStandingAmong (IsPossible line) line

abbrev pub AreLineStandings : ProductLine → List LineStanding → Type 0
AreLineStandings line = AreStandingsAmong (IsPossible line) line

-- ---- laws

-- some possible variant has a unit, and it stays in each that has it
abbrev pub StaysInEach : ProductLine → ℕ → Type 0
StaysInEach line u = ((variant : List ℕ) × IsPossible line variant × HasLineUnit line variant u)
    × ((variant : List ℕ) → IsPossible line variant → StaysIn line variant u)

-- one that is reported to stay does, and each that does is reported so
pub record ReportsWhoStays (line : ProductLine) (standings : List LineStanding) : Type 0 where
  pub sound : (u : ℕ) → u < length standings → slice_index_or standings u NoVariant ≡ Stays → StaysInEach line u
  pub complete : (u : ℕ) → u < length standings → StaysInEach line u → slice_index_or standings u NoVariant ≡ Stays

abbrev pub StandingsAreExact : Type 0
StandingsAreExact = (line : ProductLine) (standings : List LineStanding) → AreLineStandings line standings → ReportsWhoStays line standings

-- what is reported of a unit is one
abbrev pub HasOneStanding : ProductLine → ℕ → Type 0
HasOneStanding line u = (one other : LineStanding) → IsLineStanding line u one → IsLineStanding line u other → one ≡ other
