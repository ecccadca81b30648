-- The claim rule: what a unit says to what it hears, and what it is then.
-- SAE J1939-81, address claim procedures. Where a unit moves to is left open: any free address is lawful.
use Rattle.std.specs.Prelude.{◌≡◌, ◌≢◌, ℕ, Bool, true, false, ◌⊎◌, nat_eq, nat_lt, Option, Some, None, MatchBool, if◌then◌else◌}
use Rattle.std.specs.Ordering.{nat_cmp}
use Rattle.std.specs.FinMap.{FinMap, empty, get, insert, remove}
use Rattle.std.specs.FinSet.{FinSet, contains}
use Rattle.j39_claim.specs.declared.item.Say.{Say}
use Rattle.j39_claim.specs.declared.item.Say.TheVariants.{Claim, Cannot}
use Rattle.j39_claim.specs.declared.item.Item.{Item}
use Rattle.j39_claim.specs.declared.item.Item.TheVariants.{AddressClaimed, Request}
use Rattle.j39_id.specs.Name.{is_arbitrary}
use Rattle.j39_id.specs.Addresses.{is_address, in_pool}

-- what is planned of a unit: its NAME, the address that it prefers, the addresses that no unit may choose, and whether it claims: one that
-- doesn't is set to its address, hears what others say and does nothing
pub record PlannedUnit : Type 0 where
  pub name : ℕ
  pub preferred : ℕ
  pub kept : FinSet nat_cmp
  pub claims : Bool

-- the state of a unit: whether it is on, the address that it holds, and the address that it last heard from each NAME
pub record ClaimState : Type 0 where
  pub on : Bool
  pub address : Option ℕ
  pub notes : FinMap nat_cmp ℕ

abbrev pub off : ClaimState
off = record { on = false; address = None; notes = empty }

-- a started unit holds its preferred address and has no notes
abbrev pub started : PlannedUnit → ClaimState
started c = record { on = true; address = Some c.preferred; notes = empty }

-- Claim of what a unit holds, or Cannot
abbrev pub claim_of : Option ℕ → Say
claim_of (Some a) = Claim a
claim_of None = Cannot

-- an address is held, and it is this one
abbrev pub holds_address : Option ℕ → ℕ → Bool
holds_address (Some b) a = nat_eq b a
holds_address None a = false

-- a unit may move to b: an address of the pool that no note of it has and that is not kept
pub record IsFree (c : PlannedUnit) (s : ClaimState) (b : ℕ) : Type 0 where
  pub pool : in_pool b ≡ true
  pub unnoted : (n : ℕ) → get s.notes n ≢ Some b
  pub unkept : contains c.kept b ≡ false

-- an arbitrary unit moves to any free address and claims it
abbrev pub Moves : PlannedUnit → ClaimState → Option Say → ClaimState → Type 0
Moves c s says new =
    (b : ℕ) × (is_arbitrary c.name ≡ true) × IsFree c s b × (says ≡ Some (Claim b)) × (new ≡ record s { address = Some b })

-- a fixed unit, or one with no free address left, holds none and says so
abbrev pub GivesUp : PlannedUnit → ClaimState → Option Say → ClaimState → Type 0
GivesUp c s says new =
    (is_arbitrary c.name ≡ true → (b : ℕ) → ¬ IsFree c s b) × (says ≡ Some Cannot) × (new ≡ record s { address = None })

-- what a unit says that hears what NAME n says of itself, and what it is then: a claim is noted first, the smaller NAME keeps
-- an address, and a NAME that cannot claim is no longer noted
abbrev pub Hears : PlannedUnit → ClaimState → ℕ → Say → Option Say → ClaimState → Type 0
Hears c s n (Claim a) says new =
    let noted : ClaimState = record s { notes = insert s.notes n a } in
    MatchBool (holds_address s.address a)
    (MatchBool (nat_lt n c.name) (Moves c noted says new ⊎ GivesUp c noted says new) ((says ≡ Some (Claim a)) × (new ≡ noted)))
    ((says ≡ None) × (new ≡ noted))
Hears c s n Cannot says new = (says ≡ None) × (new ≡ record s { notes = remove s.notes n })

-- the same of each item that it may hear, of a unit that claims: a request is answered by what it holds
abbrev pub Answers : PlannedUnit → ClaimState → ℕ → Item → Option Say → ClaimState → Type 0
Answers c s n (AddressClaimed say) says new = Hears c s n say says new
Answers c s n Request says new = (says ≡ Some (claim_of s.address)) × (new ≡ s)

-- what any unit does at such an item: one that doesn't claim says nothing, and is what it was
abbrev pub Reacts : PlannedUnit → ClaimState → ℕ → Item → Option Say → ClaimState → Type 0
Reacts c s n item says new = MatchBool c.claims (Answers c s n item says new) ((says ≡ None) × (new ≡ s))

-- what a unit says of itself, if it claims
abbrev pub said_by : PlannedUnit → Say → Option Say
said_by c say = if c.claims then Some say else None

-- what a number says that is heard for an address: one that no unit can hold is Cannot
abbrev pub say_of : ℕ → Say
say_of a = if is_address a then Claim a else Cannot
