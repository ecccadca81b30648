-- What each step keeps of what units are and what is undelivered between them.
use Rattle.std.proofs.Common.{◌≡◌, ◌≢◌, ℕ, ◌<◌, ◌⊎◌, true, false, List, [], length, Option, Some}
use Rattle.std.specs.Ordering.{nat_cmp}
use Rattle.std.specs.FinMap.{FinMap, get}
use Rattle.std.specs.FinSet.{contains}
use Rattle.std.specs.List.{AllByRecursion}
use Rattle.j39_id.specs.Addresses.{in_pool}
use Rattle.j39_id.specs.Name.{is_arbitrary}
use Rattle.j39_claim.specs.declared.item.Say.TheVariants.{Claim, Cannot}
use Rattle.j39_claim.specs.declared.item.Item.{Item}
use Rattle.j39_claim.specs.declared.item.Item.TheVariants.{AddressClaimed, Request}
use Rattle.j39_claim.specs.ClaimRule.{PlannedUnit}
use Rattle.j39_network.specs.PlannedUnits.{unit_at}
use Rattle.j39_world.specs.World.{Stations, Undelivered}
use Rattle.j39_world.specs.Sound.{IsClaimUndelivered}

-- the unit may hold it: a fixed one, and one that doesn't claim, only its own, an arbitrary one none that is kept free, and beside its own
-- one of the pool
pub record IsOwn (p : PlannedUnit) (a : ℕ) : Type 0 where
  pub fixed : is_arbitrary p.name ≡ false → a ≡ p.preferred
  pub unkept : is_arbitrary p.name ≡ true → contains p.kept a ≡ false
  pub planned : (a ≡ p.preferred) ⊎ (in_pool a ≡ true)
  pub silent : p.claims ≡ false → a ≡ p.preferred

-- the unit may say it, if it claims
abbrev pub IsSaid : PlannedUnit → Item → Type 0
IsSaid p (AddressClaimed (Claim a)) = IsOwn p a
IsSaid p (AddressClaimed Cannot) = ⊥
IsSaid p Request = Unit {0}

-- v has noted a for n: it is another unit's NAME, and that unit may hold a
pub record IsNoted (units : List PlannedUnit) (v n a : ℕ) : Type 0 where
  pub place : ℕ
  pub inside : place < length units
  pub other : place ≢ v
  pub name : (unit_at units place).name ≡ n
  pub own : IsOwn (unit_at units place) a

abbrev pub AllNoted : List PlannedUnit → ℕ → FinMap nat_cmp ℕ → Type 0
AllNoted units v notes = (n a : ℕ) → get notes n ≡ Some a → IsNoted units v n a

-- a unit that is on holds an address that it may hold
abbrev pub IsHeld : PlannedUnit → Option ℕ → Type 0
IsHeld p address = (a : ℕ) × (address ≡ Some a) × IsOwn p a

pub record AddressInvariant (units : List PlannedUnit) (stations : Stations) (claims : Undelivered) : Type 0 where
  -- units alone are on
  pub inside : (u : ℕ) → (stations u).on ≡ true → u < length units
  -- each unit that is on holds an address that it may hold
  pub holds : (u : ℕ) → (stations u).on ≡ true → IsHeld (unit_at units u) (stations u).address
  -- two that hold one address have still to hear so
  pub apart : (u v a : ℕ) → u ≢ v → (stations u).on ≡ true → (stations v).on ≡ true
      → (stations u).address ≡ Some a → (stations v).address ≡ Some a → IsClaimUndelivered claims u v a
  -- units claim only what they may, and none says that it cannot
  pub said : (u v : ℕ) → AllByRecursion (IsSaid (unit_at units u)) (claims u v)
  -- no unit sends to itself
  pub itself : (u : ℕ) → claims u u ≡ []
  -- each note is of another unit, and an address that it may hold
  pub notes : (v : ℕ) → AllNoted units v (stations v).notes
