-- Where units stand: which of them hold their planned addresses, whatever the others do (SAE J1939-81, address claim procedures). Units
-- are named by place.
use Rattle.std.specs.Prelude.{◌≡◌, ◌≢◌, ℕ, ◌<◌, ◌≤◌, ◌↔◌, true, false, ◌⊎◌, List, length, Some}
use Rattle.std.specs.FinSet.{FinSet, contains}
use Rattle.std.specs.Ordering.{nat_cmp}
use Rattle.j39_id.specs.Addresses.{in_pool}
use Rattle.j39_id.specs.Name.{is_arbitrary}
use Rattle.j39_claim.specs.ClaimRule.{PlannedUnit}
use Rattle.j39_network.specs.PlannedUnits.{unit_at}
use Rattle.j39_network.specs.Staying.{EachOther, EachSmaller, IsFirstThere, IsOutsidePool, Stays}
use Rattle.j39_world.specs.World.{World}

-- the unit, while it is on, holds its planned address
abbrev pub HoldsPlanned : List PlannedUnit → World → ℕ → Type 0
HoldsPlanned units w u = (w.stations u).on ≡ true → (w.stations u).address ≡ Some (unit_at units u).preferred

-- no two units are planned with one address
abbrev pub ArePlannedApart : List PlannedUnit → Type 0
ArePlannedApart units =
    (u v : ℕ) → u < length units → v < length units → u ≢ v → (unit_at units u).preferred ≢ (unit_at units v).preferred

-- no two units whose NAMEs are at most this are planned with one address
abbrev pub ArePlannedApartTo : ℕ → List PlannedUnit → Type 0
ArePlannedApartTo limit units =
    (u v : ℕ) → u < length units → v < length units → u ≢ v → (unit_at units u).name ≤ limit → (unit_at units v).name ≤ limit
    → (unit_at units u).preferred ≢ (unit_at units v).preferred

-- ---- who stays

-- the same, by rising NAME: whether a unit stays depends on those of smaller NAME
abbrev pub StaysByOthers : List PlannedUnit → ℕ → Type 0
StaysByOthers units u =
    IsFirstThere units u × (IsOutsidePool units u ⊎ EachSmaller units u (λ v. is_arbitrary (unit_at units v).name ≡ true → Stays units v))

-- ---- who is alone at its address

-- the unit, while it is on, holds its planned address, and no other one that is on does
pub record HoldsAlone (units : List PlannedUnit) (w : World) (u : ℕ) : Type 0 where
  pub held : HoldsPlanned units w u
  pub alone : EachOther units u (λ v. (w.stations v).on ≡ true → (w.stations v).address ≢ Some (unit_at units u).preferred)
