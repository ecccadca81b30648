-- What a unit says and is where its new address is picked by a given chooser.
use Rattle.std.specs.Prelude.{ℕ, ◌<◌, ◌&&◌, nat_lt, Option, Some, None, IfSome, if◌then◌else◌}
use Rattle.std.specs.Ordering.{nat_cmp}
use Rattle.std.specs.FinMap.{FinMap, insert, remove, values}
use Rattle.std.specs.FinSet.{FinSet, from_list, union}
use Rattle.j39_claim.specs.declared.item.Say.{Say}
use Rattle.j39_claim.specs.declared.item.Say.TheVariants.{Claim, Cannot}
use Rattle.j39_id.specs.Name.{is_arbitrary}
use Rattle.j39_claim.specs.AddressSets.{free_count, IsFreeIn}
use Rattle.j39_claim.specs.ClaimRule.{PlannedUnit, ClaimState, Hears, claim_of, holds_address}

-- the address that is picked for a NAME that loses an address, where these are taken
abbrev pub Pick : Type 0
Pick = ℕ → ℕ → FinSet nat_cmp → ℕ

-- it picks a free address of the pool wherever there is one
abbrev pub IsLawful : Pick → Type 0
IsLawful pick = (name lost : ℕ) (taken : FinSet nat_cmp) → 0 < free_count taken → IsFreeIn taken (pick name lost taken)

-- all addresses that are noted
abbrev pub noted_addresses : FinMap nat_cmp ℕ → FinSet nat_cmp
noted_addresses notes = from_list (values notes)

-- what is taken for a unit: the addresses that are noted, and those that are kept
abbrev pub taken_for : PlannedUnit → FinMap nat_cmp ℕ → FinSet nat_cmp
taken_for c notes = union (noted_addresses notes) c.kept

-- where a unit moves that loses an address
abbrev pub moved_to : Pick → ℕ → ℕ → FinSet nat_cmp → Option ℕ
moved_to pick name lost taken =
    if is_arbitrary name && nat_lt 0 (free_count taken) then Some (pick name lost taken) else None

-- where it moves, if it does, is free
abbrev pub IsFreeMove : Pick → ℕ → ℕ → FinSet nat_cmp → Type 0
IsFreeMove pick name lost taken = IfSome (moved_to pick name lost taken) (IsFreeIn taken)

-- the address that a unit holds once n has claimed a, which it then notes
abbrev pub address_after : Pick → PlannedUnit → ClaimState → ℕ → ℕ → Option ℕ
address_after pick c s n a =
    if holds_address s.address a && nat_lt n c.name
    then moved_to pick c.name a (taken_for c (insert s.notes n a))
    else s.address

-- it answers where it held that address
abbrev pub said_after : Pick → PlannedUnit → ClaimState → ℕ → Say → Option Say
said_after pick c s n (Claim a) = if holds_address s.address a then Some (claim_of (address_after pick c s n a)) else None
said_after pick c s n Cannot = None

abbrev pub state_after : Pick → PlannedUnit → ClaimState → ℕ → Say → ClaimState
state_after pick c s n (Claim a) =
    record { on = s.on; address = address_after pick c s n a; notes = insert s.notes n a }
state_after pick c s n Cannot = record s { notes = remove s.notes n }

-- the same of any unit: one that doesn't claim says nothing, and is what it was
abbrev pub said_exactly : Pick → PlannedUnit → ClaimState → ℕ → Say → Option Say
said_exactly pick c s n say = if c.claims then said_after pick c s n say else None

abbrev pub left_exactly : Pick → PlannedUnit → ClaimState → ℕ → Say → ClaimState
left_exactly pick c s n say = if c.claims then state_after pick c s n say else s

-- whichever free address is picked, the exact answer follows the claim rule
abbrev pub LawfulPicksFollowTheRule : Type 0
LawfulPicksFollowTheRule =
    (pick : Pick) → IsLawful pick → (c : PlannedUnit) (s : ClaimState) (n : ℕ) (say : Say)
    → Hears c s n say (said_after pick c s n say) (state_after pick c s n say)
