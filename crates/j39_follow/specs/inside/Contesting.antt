-- What a table of contests keeps, and what it stands for.
use Rattle.std.specs.Prelude.{◌≡◌, ◌+◌, ◌<◌, ◌==◌, ◌&&◌, ◌||◌, ℕ, nat_le, nat_lt, not, Bool, true, false, if◌then◌else◌}
use Rattle.std.specs.Prelude.{List, Option, Some, None, slice_index_or}
use Rattle.std.specs.BTreeMap.{get}
use Rattle.std.specs.List.{slice_get}
use Rattle.std.specs.Option.{unwrap_or}
use Rattle.std.specs.Ordering.{nat_cmp}
use Rattle.j39_id.specs.declared.frame.Frame.{Frame}
use Rattle.j39_id.specs.declared.ident.Ident.{Ident}
use Rattle.j39_network.specs.declared.plan.Plan.{Plan}
use Rattle.j39_network.specs.declared.plan.unit_plan.UnitPlan.{UnitPlan}
use Rattle.j39_id.specs.FrameMeaning.{claims_address}
use Rattle.j39_follow.specs.Contests.{Begins, BeginsNone, ClaimedLast, IsContention, IsContested, IsGuessed, IsTaken, Opposes, Timed, claim_wait, frames_of}
use Rattle.j39_follow.specs.Contests.{likely_named, nothing_contended}
use Rattle.j39_follow.specs.Holders.{Claims}
use Rattle.j39_follow.specs.LoggedRequests.{asker_or_source}
use Rattle.j39_follow.specs.declared.address.claim.Claim.{Claim}
use Rattle.j39_follow.specs.declared.address.claimants.Claimant.{Claimant}
use Rattle.j39_follow.specs.declared.address.claimants.Claimants.{Claimants}
use Rattle.j39_follow.specs.declared.address.contest.Contention.{Contention}
use Rattle.j39_follow.specs.declared.address.contest.Contest.{Contest}
use Rattle.j39_follow.specs.declared.address.contests.Contests.{Contests}
use Rattle.j39_follow.specs.declared.address.known_parties.Parties.{Parties}
use Rattle.j39_follow.specs.declared.address.who.Who.{Who}
use Rattle.j39_follow.specs.declared.address.who.Who.TheVariants.{Likely}
use Rattle.j39_follow.specs.inside.Hearing.{is_same_party}
use Rattle.j39_follow.specs.inside.Recounting.{HasNames, party_at}

-- ---- NAMEs

abbrev pub known_in : Claimants → ℕ → Option Claimant
known_in claimants name = get nat_cmp claimants.known name

-- what is known of a NAME
abbrev pub claimant_in : Plan → Claimants → ℕ → Claimant
claimant_in plan claimants name = unwrap_or (known_in claimants name) (record { party = likely_named plan name; address = None })

-- this is who the NAME is, and the address that it claimed last
pub record IsClaimant (plan : Plan) (frames : List Frame) (name : ℕ) (k : Claimant) : Type 0 where
  pub party : k.party ≡ likely_named plan name
  pub claimed : (address : ℕ) → k.address ≡ Some address → ClaimedLast frames name address
  pub claims : (address : ℕ) → ClaimedLast frames name address → k.address ≡ Some address

abbrev pub AreClaimants : Plan → Claimants → List Frame → Type 0
AreClaimants plan claimants frames = (name : ℕ) → IsClaimant plan frames name (claimant_in plan claimants name)

abbrev pub claimed_place : Frame → Option ℕ
claimed_place f = if claims_address f then Some f.ident.sa else None

-- ---- a table

abbrev pub contention_at : List Contention → ℕ → Contention
contention_at table address = slice_index_or table address nothing_contended

-- what is kept of contests and NAMEs is that of these lines
pub record AreContests (plan : Plan) (contests : Contests) (log : List Timed) : Type 0 where
  pub contentions : (address : ℕ) → address < 256 → IsContention plan log address (contention_at contests.table.value address)
  pub claimants : AreClaimants plan contests.claimants (frames_of log)

-- ---- a contest

abbrev pub is_lasting : Contest → ℕ → Bool
is_lasting c now = nat_le c.since now && nat_lt now (c.since + claim_wait)

-- the contest that runs at a time
abbrev pub running_of : Option Contest → Option ℕ → Option Contest
running_of (Some c) (Some now) = if is_lasting c now then Some c else None
running_of _ _ = None

abbrev pub is_heard : Option ℕ → ℕ → Bool
is_heard (Some since) now = nat_le (since + claim_wait) now
is_heard None now = true

-- who defends the address in a contest at this time, and isn't silent
abbrev pub defender_in : Option Contest → Option ℕ → Option Who
defender_in (Some c) (Some now) = if is_lasting c now && is_heard c.taken now then Some c.defender else None
defender_in _ _ = None

abbrev pub defender_at : Contests → ℕ → Option ℕ → Option Who
defender_at contests address time = defender_in (contention_at contests.table.value address).contest time

-- what is left of a contest at a frame that reports of this one
abbrev pub remaining_of : Who → Option Contest → Option Contest
remaining_of party None = None
remaining_of party (Some c) = if is_same_party party c.defender then None else Some c

abbrev pub remaining_at : Who → Contention → Contention
remaining_at party old = record { since = old.since; taken = old.taken; contest = remaining_of party old.contest }

abbrev pub AreRemaining : List Contention → List Contention → Who → Type 0
AreRemaining old new party = (address : ℕ) → address < 256 → contention_at new address ≡ remaining_at party (contention_at old address)

-- ---- a claim

-- this is what the frame of a line claims, behind these
pub record IsClaimAt (plan : Plan) (before : List Timed) (x : Timed) (k : Claim) : Type 0 where
  pub claims : Claims x.frame k.name k.address
  pub claimant : IsClaimant plan (frames_of before) k.name k.claimant
  pub time : k.time ≡ x.time

abbrev pub is_place : Option ℕ → ℕ → Bool
is_place None address = false
is_place (Some place) address = place == address

abbrev pub defends_in : Option Contest → Who → Bool
defends_in None party = false
defends_in (Some c) party = is_same_party c.defender party

-- since when the NAME that holds an address does, if one does
abbrev pub since_of : Option ℕ → Option ℕ → Option ℕ
since_of None since = None
since_of (Some holder) since = since

abbrev pub is_soon : Option ℕ → Option ℕ → Bool
is_soon (Some first) (Some now) = nat_le now (first + claim_wait)
is_soon _ _ = true

abbrev pub is_defended : Option Contest → Option ℕ → Claim → Bool
is_defended kept since k =
    (is_place k.claimant.address k.address && is_soon since k.time) || defends_in (running_of kept k.time) k.claimant.party

abbrev pub smaller_of : Option ℕ → ℕ → Option ℕ
smaller_of None claimant = None
smaller_of (Some name) claimant = if nat_lt name claimant then Some name else None

abbrev pub opponent_of : ℕ → ℕ → Bool → Option ℕ
opponent_of holder claimant defence = if nat_lt holder claimant || not defence then Some holder else None

-- the contest of a claim that meets this NAME
abbrev pub contest_with : Plan → Option ℕ → Claim → ℕ → ℕ → Option Contest
contest_with plan taken k opponent since =
    if is_same_party (likely_named plan opponent) k.claimant.party then None
    else Some (record {
      defender = likely_named plan opponent;
      since = since;
      taken = if nat_lt k.name opponent then taken else None;
    })

-- the NAME that a claim meets, or that it meets none
abbrev pub IsMet : Plan → List Timed → Contention → Timed → Claim → Option ℕ → Type 0
IsMet plan before old x k (Some name) = Opposes plan (frames_of before) old x.time k.address k.name name
IsMet plan before old x k None = (name : ℕ) → ¬ Opposes plan (frames_of before) old x.time k.address k.name name

-- the contest that a line begins at an address, or that it begins none
abbrev pub IsBegun : Plan → List Timed → Contention → Timed → ℕ → Option Contest → Type 0
IsBegun plan before old x address (Some c) = Begins plan before old x address c
IsBegun plan before old x address None = BeginsNone plan before old x address

-- ---- names behind addresses

abbrev pub IsNameAt : Plan → ℕ → Option ℕ → Type 0
IsNameAt plan place (Some name) = (unit : UnitPlan) × (slice_get plan.units.items place ≡ Some unit) × (unit.name ≡ name)
IsNameAt plan place None = slice_get plan.units.items place ≡ None

abbrev pub IsLikelyName : Plan → Who → Option ℕ → Type 0
IsLikelyName plan (Likely u) name = IsNameAt plan u name
IsLikelyName plan _ name = name ≡ None

-- the NAME that is guessed at an address that none holds, or that none is
abbrev pub IsGuess : Plan → List Frame → ℕ → Option ℕ → Type 0
IsGuess plan frames address (Some name) = IsGuessed plan frames address name
IsGuess plan frames address None = (name : ℕ) → ¬ IsGuessed plan frames address name

-- ---- who is taken to be behind an address

-- who defends the address in the contest that goes on at the last line, or that none does
abbrev pub IsDefender : Plan → List Timed → ℕ → Option Who → Type 0
IsDefender plan log address (Some who) = (c : Contest) × IsContested plan log address c × (c.defender ≡ who)
IsDefender plan log address None = (c : Contest) → ¬ IsContested plan log address c

abbrev pub taken_party : Who → Option Who → Who
taken_party who (Some defender) = defender
taken_party who None = who

-- the parties have who is taken to be behind the two addresses of a frame, and their texts
pub record ShowsParties (plan : Plan) (parties : Parties) (log : List Timed) (i : Ident) : Type 0 where
  pub source : IsTaken plan log i.sa (party_at parties.all i.sa)
  pub receiver : IsTaken plan log i.ps (party_at parties.all i.ps)
  pub names : HasNames plan parties.all parties.names

-- and who is taken to be behind the address of which an acknowledgement speaks
abbrev pub ShowsAsker : Plan → Parties → List Timed → Frame → Type 0
ShowsAsker plan parties log f = IsTaken plan log (asker_or_source plan f) (party_at parties.all (asker_or_source plan f))
