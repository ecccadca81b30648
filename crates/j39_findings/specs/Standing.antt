-- Which units of a plan stay, which are alone at their addresses, and how that is reported: by the least NAME that is planned at each address,
-- whether another unit is planned there, the least NAME of those that may have to move, and whether strangers come.
use Rattle.std.specs.Prelude.{◌≡◌, ℕ, ◌<◌, ◌≤◌, Bool, true, MatchBool, not, false, is_none, ◌&&◌, ◌||◌, cond, nat_le, nat_lt, List, length, slice_index_or}
use Rattle.std.specs.Prelude.{Option, Some, None}
use Rattle.std.specs.List.{slice_get}
use Rattle.std.specs.FinSet.{FinSet, contains}
use Rattle.std.specs.Ordering.{nat_cmp}
use Rattle.j39_id.specs.Addresses.{in_pool}
use Rattle.j39_id.specs.Name.{is_arbitrary}
use Rattle.j39_network.specs.declared.plan.Plan.{Plan}
use Rattle.j39_network.specs.declared.plan.unit_plan.UnitPlan.{UnitPlan}
use Rattle.j39_findings.specs.declared.standing.Standing.{Standing}
use Rattle.j39_findings.specs.Findings.{IsAloneInPlan}
use Rattle.j39_network.specs.PlannedUnits.{units_of}
use Rattle.j39_network.specs.Staying.{StaysBeside}

-- of the unit at each place this says whether it stays
abbrev pub DecidesWhoStays : Plan → (UnitPlan → Bool) → Type 0
DecidesWhoStays plan stays = (u : ℕ) (unit : UnitPlan) → slice_get plan.units.items u ≡ Some unit
    → MatchBool (stays unit) (StaysBeside plan.strangers (units_of plan) u) (¬ StaysBeside plan.strangers (units_of plan) u)

-- and this whether it is alone at its address
abbrev pub DecidesWhoIsAlone : Plan → (UnitPlan → Bool) → Type 0
DecidesWhoIsAlone plan alone = (u : ℕ) (unit : UnitPlan) → slice_get plan.units.items u ≡ Some unit
    → MatchBool (alone unit) (IsAloneInPlan plan u) (¬ IsAloneInPlan plan u)

-- this is the least NAME of those of the first so many units of which it holds, if it holds of one
pub record IsLeastName (units : List UnitPlan) (count : ℕ) (Among : UnitPlan → Type 0) (least : Option ℕ) : Type 0 where
  pub one : (n : ℕ) → least ≡ Some n
      → (u : ℕ) × (unit : UnitPlan) × (u < count) × (slice_get units u ≡ Some unit) × Among unit × (unit.name ≡ n)
  pub below : (u : ℕ) (unit : UnitPlan) → u < count → slice_get units u ≡ Some unit → Among unit → (n : ℕ) × (least ≡ Some n) × (n ≤ unit.name)

-- the least of these with one more
abbrev pub smaller : Option ℕ → ℕ → ℕ
smaller None name = name
smaller (Some least) name = cond (nat_lt least name) least name

-- the unit has the least NAME at its address, or one that isn't above it
abbrev pub is_least : Option ℕ → ℕ → Bool
is_least None name = true
is_least (Some least) name = nat_le name least

abbrev pub is_first_by : List (Option ℕ) → UnitPlan → Bool
is_first_by firsts unit = is_least (slice_index_or firsts unit.address None) unit.name

abbrev pub stays_by : List (Option ℕ) → Option ℕ → UnitPlan → Bool
stays_by firsts mover unit = is_first_by firsts unit && (not (in_pool unit.address) || is_least mover unit.name)

-- no strangers come, or the unit may not choose
abbrev pub is_settled : Bool → UnitPlan → Bool
is_settled strangers unit = not strangers || not (is_arbitrary unit.name)

-- whether a unit stays, as a call answers it
abbrev pub stays_of : Standing → UnitPlan → Bool
stays_of standing unit = stays_by standing.firsts standing.mover unit && is_settled standing.strangers unit

-- the least NAME at each address, of the first so many units
pub record AreFirsts (units : List UnitPlan) (count : ℕ) (firsts : List (Option ℕ)) : Type 0 where
  pub size : length firsts ≡ 256
  pub each : (a : ℕ) → a < 256 → IsLeastName units count (λ unit. unit.address ≡ a) (slice_index_or firsts a None)

-- the unit may choose, and isn't the first at its planned address
abbrev pub is_mover_by : List (Option ℕ) → UnitPlan → Bool
is_mover_by firsts unit = is_arbitrary unit.name && not (is_first_by firsts unit)

-- the least NAME of these units, of the first so many
abbrev pub IsMover : List UnitPlan → ℕ → List (Option ℕ) → Option ℕ → Type 0
IsMover units count firsts mover = IsLeastName units count (λ unit. is_mover_by firsts unit ≡ true) mover

-- ---- who is alone at its address

-- one of the first so many units is planned at the address, and two of them are
abbrev pub IsPlannedThere : List UnitPlan → ℕ → ℕ → Type 0
IsPlannedThere units count address =
    (u : ℕ) × (unit : UnitPlan) × (u < count) × (slice_get units u ≡ Some unit) × (unit.address ≡ address)

pub record AreTwoThere (units : List UnitPlan) (count address : ℕ) : Type 0 where
  pub first : ℕ
  pub second : ℕ
  pub apart : first < second
  pub inside : second < count
  pub one : UnitPlan
  pub one_is : slice_get units first ≡ Some one
  pub one_there : one.address ≡ address
  pub other : UnitPlan
  pub other_is : slice_get units second ≡ Some other
  pub other_there : other.address ≡ address

-- at each address this says whether it is so
pub record DecidesAtEach (There : ℕ → Type 0) (stated : List Bool) : Type 0 where
  pub size : length stated ≡ 256
  pub each : (a : ℕ) → a < 256 → MatchBool (slice_index_or stated a false) (There a) (¬ There a)

-- it is the only one that is planned at its address, and none moves there
abbrev pub is_alone_by : List Bool → Option ℕ → Bool → FinSet nat_cmp → UnitPlan → Bool
is_alone_by shared mover strangers kept unit =
    not (slice_index_or shared unit.address false)
    && (not (in_pool unit.address) || (not strangers && (contains kept unit.address || is_none mover)))

-- whether a unit is alone, as a call answers it
abbrev pub alone_of : Standing → FinSet nat_cmp → UnitPlan → Bool
alone_of standing kept unit = is_alone_by standing.shared standing.mover standing.strangers kept unit
