-- Which units of a list hold their planned addresses, whatever the others do, and which are alone there (SAE J1939-81, address claim
-- procedures). Units are named by place.
use Rattle.std.specs.Prelude.{◌≡◌, ◌≢◌, ℕ, ◌<◌, ◌↔◌, true, false, ◌⊎◌, List, length}
use Rattle.std.specs.FinSet.{FinSet, contains}
use Rattle.std.specs.Ordering.{nat_cmp}
use Rattle.j39_id.specs.Addresses.{in_pool}
use Rattle.j39_id.specs.Name.{is_arbitrary}
use Rattle.j39_claim.specs.ClaimRule.{PlannedUnit}
use Rattle.j39_network.specs.PlannedUnits.{unit_at}

-- ---- who stays

-- this holds of each unit of smaller NAME
abbrev pub EachSmaller : List PlannedUnit → ℕ → (ℕ → Type 0) → Type 0
EachSmaller units u Holds = (v : ℕ) → v < length units → (unit_at units v).name < (unit_at units u).name → Holds v

-- its planned address is that of no unit of smaller NAME, which would take it
abbrev pub IsFirstThere : List PlannedUnit → ℕ → Type 0
IsFirstThere units u = EachSmaller units u (λ v. (unit_at units v).preferred ≢ (unit_at units u).preferred)

-- its planned address is one to which no other unit moves
abbrev pub IsOutsidePool : List PlannedUnit → ℕ → Type 0
IsOutsidePool units u = in_pool (unit_at units u).preferred ≡ false

-- a unit stays that is the first at its planned address, if that is none to which others move, or none of smaller NAME has to move
pub record Stays (units : List PlannedUnit) (u : ℕ) : Type 0 where
  pub first : IsFirstThere units u
  pub unmoved : IsOutsidePool units u ⊎ EachSmaller units u (λ v. is_arbitrary (unit_at units v).name ≡ true → IsFirstThere units v)

-- ---- who stays where strangers come

-- where units may come that aren't planned, each unit that may choose may have to move for one of these: of those that stay without them
-- the others do
abbrev pub StaysBeside : ℕ → List PlannedUnit → ℕ → Type 0
StaysBeside strangers units u = Stays units u × ((strangers ≡ 0) ⊎ (is_arbitrary (unit_at units u).name ≡ false))

-- ---- who is alone at its address

-- this holds of each other unit
abbrev pub EachOther : List PlannedUnit → ℕ → (ℕ → Type 0) → Type 0
EachOther units u Holds = (v : ℕ) → v < length units → u ≢ v → Holds v

-- a unit is alone at its planned address, if no other one is planned there, and none moves there: it is none to which units move, or is
-- kept free, or each other unit that may choose stays at its own
pub record IsAloneThere (keep_free : FinSet nat_cmp) (units : List PlannedUnit) (u : ℕ) : Type 0 where
  pub inside : u < length units
  pub planned : EachOther units u (λ v. (unit_at units v).preferred ≢ (unit_at units u).preferred)
  pub unreached : IsOutsidePool units u ⊎ ((contains keep_free (unit_at units u).preferred ≡ true)
      ⊎ EachOther units u (λ v. is_arbitrary (unit_at units v).name ≡ true → Stays units v))

-- where units may come that aren't planned, and that don't know what is kept free, it is alone at an address to which none of them moves
abbrev pub IsAloneBeside : ℕ → FinSet nat_cmp → List PlannedUnit → ℕ → Type 0
IsAloneBeside strangers keep_free units u = IsAloneThere keep_free units u × ((strangers ≡ 0) ⊎ IsOutsidePool units u)

-- the same units stay in both lists, also beside as many strangers, and the same are alone
pub record StayAlike (keep_free : FinSet nat_cmp) (strangers : ℕ) (units others : List PlannedUnit) : Type 0 where
  pub stay : (u : ℕ) → Stays units u ↔ Stays others u
  pub beside : (u : ℕ) → StaysBeside strangers units u ↔ StaysBeside strangers others u
  pub alone : (u : ℕ) → IsAloneThere keep_free units u ↔ IsAloneThere keep_free others u
