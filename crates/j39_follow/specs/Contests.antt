-- Contests for an address (SAE J1939-81): the smaller NAME keeps it, and who claims one of 128 to 247 waits 250 ms before it sends, whichever NAME
-- is smaller. So what comes from it behind such a claim is mostly of the unit that held it, which has still to hear the claim.
use Rattle.std.specs.Prelude.{◌≡◌, ◌⊎◌, ◌+◌, ◌<◌, ◌≤◌, ℕ, nat_lt, true, if◌then◌else◌, List, [], ◌∷◌, ◌++◌, map, Option, Some, None}
use Rattle.std.specs.List.{All}
use Rattle.std.specs.Option.{option_map_or}
use Rattle.j39_id.specs.Addresses.{in_pool}
use Rattle.j39_id.specs.FrameMeaning.{name_in}
use Rattle.j39_id.specs.declared.frame.Frame.{Frame}
use Rattle.j39_network.specs.declared.plan.Plan.{Plan}
use Rattle.j39_follow.specs.Holders.{Claims, HoldsByFrames, IsHolder, ClaimsOrCannot}
use Rattle.j39_follow.specs.Who.{IsLikeliest, IsSameParty, IsWho, unit_of_name}
use Rattle.j39_follow.specs.declared.address.contest.Contention.{Contention}
use Rattle.j39_follow.specs.declared.address.contest.Contest.{Contest}
use Rattle.j39_follow.specs.declared.address.who.Who.{Who}
use Rattle.j39_follow.specs.declared.address.who.Who.TheVariants.{Likely, LikelyStranger}

-- a frame, and the time of its line in microseconds, if it has one
pub record Timed : Type 0 where
  pub frame : Frame
  pub time : Option ℕ

abbrev pub frames_of : List Timed → List Frame
frames_of log = map (λ (x : Timed). x.frame) log

-- how long a unit waits behind its claim, in microseconds
abbrev pub claim_wait : ℕ
claim_wait = 250000

-- who a NAME is reported to be in a contest: its unit, or itself
abbrev pub likely_named : Plan → ℕ → Who
likely_named plan name = option_map_or Likely (unit_of_name plan name) (LikelyStranger name)

-- ---- claims

-- what was reported of the NAME last is a claim of this address, whoever claimed it since
pub record ClaimedLast (frames : List Frame) (name address : ℕ) : Type 0 where
  pub before : List Frame
  pub claim : Frame
  pub behind : List Frame
  pub row : frames ≡ before ++ claim ∷ behind
  pub claims : Claims claim name address
  pub unheard : All (λ f. ¬ ClaimsOrCannot f name) behind

-- a contest runs at this time
pub record Runs (kept : Option Contest) (time : Option ℕ) (c : Contest) : Type 0 where
  pub kept_is : kept ≡ Some c
  pub now : ℕ
  pub now_is : time ≡ Some now
  pub begun : c.since ≤ now
  pub lasts : now < c.since + claim_wait

-- where both times are known the second is no more than 250 ms behind the first: a unit answers a claim of its address as soon as it has heard it
abbrev pub IsSoon : Option ℕ → Option ℕ → Type 0
IsSoon since time = (first now : ℕ) → since ≡ Some first → time ≡ Some now → now ≤ first + claim_wait

-- the NAME claimed the address last, and whoever holds it now came to hold it so short a time ago
abbrev pub ClaimsAgain : List Frame → Contention → Option ℕ → ℕ → ℕ → Type 0
ClaimsAgain frames old time address name =
    ClaimedLast frames name address × ((holder : ℕ) → HoldsByFrames frames holder address → IsSoon old.since time)

-- a NAME that claims the address defends it: it does so again, or a contest runs there that it, or another NAME of its unit, defends
abbrev pub Defends : Plan → List Frame → Contention → Option ℕ → ℕ → ℕ → Type 0
Defends plan frames old time address name =
    ClaimsAgain frames old time address name ⊎ ((c : Contest) × Runs old.contest time c × IsSameParty c.defender (likely_named plan name))

-- no NAME holds the address, and this is that of the unit that would claim it first
abbrev pub IsGuessed : Plan → List Frame → ℕ → ℕ → Type 0
IsGuessed plan frames address name =
    IsHolder frames address None × (u : ℕ) × (likeliest : IsLikeliest plan frames address u) × (likeliest.unit.name ≡ name)

-- a NAME that claims the address is opposed by one that holds it, which is smaller, or against which it doesn't defend the address; or by a
-- smaller one that is guessed
abbrev pub Opposes : Plan → List Frame → Contention → Option ℕ → ℕ → ℕ → ℕ → Type 0
Opposes plan frames old time address claimant opponent =
    (HoldsByFrames frames opponent address × ((opponent < claimant) ⊎ (¬ Defends plan frames old time address claimant)))
    ⊎ (IsGuessed plan frames address opponent × (opponent < claimant))

-- ---- a line

-- at a line, after these, a contest begins where none runs: an address of the pool is claimed, and the NAME is opposed by one that isn't of its
-- unit, which defends the address from now on; where that one is larger, it may have taken the address itself not long ago
pub record Begins (plan : Plan) (before : List Timed) (old : Contention) (x : Timed) (address : ℕ) (c : Contest) : Type 0 where
  pub claimant : ℕ
  pub opponent : ℕ
  pub pool : in_pool address ≡ true
  pub claims : Claims x.frame claimant address
  pub since : x.time ≡ Some c.since
  pub free : (other : Contest) → ¬ Runs old.contest x.time other
  pub opposes : Opposes plan (frames_of before) old x.time address claimant opponent
  pub another : ¬ IsSameParty (likely_named plan opponent) (likely_named plan claimant)
  pub defender : c.defender ≡ likely_named plan opponent
  pub taken : c.taken ≡ (if nat_lt claimant opponent then old.taken else None)

abbrev pub BeginsNone : Plan → List Timed → Contention → Timed → ℕ → Type 0
BeginsNone plan before old x address = (c : Contest) → ¬ Begins plan before old x address c

-- a frame ends it: it reports anything of the NAME that defends the address, or of another one of its unit
abbrev pub EndsContest : Plan → Frame → Contest → Type 0
EndsContest plan f c = (name : ℕ) × ClaimsOrCannot f name × IsSameParty (likely_named plan name) c.defender

-- the contest that is kept behind a line: the one that it begins, or the one from before that it doesn't end
abbrev pub IsContestBehind : Plan → List Timed → Contention → Timed → ℕ → Option Contest → Type 0
IsContestBehind plan before old x address (Some c) =
    Begins plan before old x address c
    ⊎ (BeginsNone plan before old x address × (old.contest ≡ Some c) × (¬ EndsContest plan x.frame c))
IsContestBehind plan before old x address None =
    BeginsNone plan before old x address × ((c : Contest) → old.contest ≡ Some c → EndsContest plan x.frame c)

-- the frame claims the address for a NAME that doesn't hold it
abbrev pub Takes : List Frame → Frame → ℕ → Type 0
Takes frames f address = Claims f (name_in f) address × (¬ HoldsByFrames frames (name_in f) address)

-- when the address was taken by a claim, behind a line: a claim by which a NAME comes to hold it has the line's time, but none where it defends it
abbrev pub IsTakenBehind : Plan → List Timed → Contention → Timed → ℕ → Option ℕ → Type 0
IsTakenBehind plan before old x address taken =
    (Takes (frames_of before) x.frame address × Defends plan (frames_of before) old x.time address (name_in x.frame) × (taken ≡ None))
    ⊎ (Takes (frames_of before) x.frame address × (¬ Defends plan (frames_of before) old x.time address (name_in x.frame))
    × (taken ≡ x.time))
    ⊎ ((¬ Takes (frames_of before) x.frame address) × (taken ≡ old.taken))

-- since when it is held, behind a line: a claim by which a NAME comes to hold it has the line's time
abbrev pub IsHeldSince : List Timed → Contention → Timed → ℕ → Option ℕ → Type 0
IsHeldSince before old x address since =
    (Takes (frames_of before) x.frame address × (since ≡ x.time)) ⊎ ((¬ Takes (frames_of before) x.frame address) × (since ≡ old.since))

pub record IsContentionBehind (plan : Plan) (before : List Timed) (old : Contention) (x : Timed) (address : ℕ) (new : Contention) : Type 0 where
  pub since : IsHeldSince before old x address new.since
  pub taken : IsTakenBehind plan before old x address new.taken
  pub contest : IsContestBehind plan before old x address new.contest

-- ---- a log

-- from what is known of an address after the first lines the others lead to this
abbrev pub Leads : Plan → ℕ → List Timed → Contention → List Timed → Contention → Type 0
Leads plan address before old [] new = new ≡ old
Leads plan address before old (x ∷ rest) new =
    (next : Contention) × IsContentionBehind plan before old x address next × Leads plan address (before ++ x ∷ []) next rest new

abbrev pub nothing_contended : Contention
nothing_contended = record { since = None; taken = None; contest = None }

-- since when the address is held, when it was taken last, and the contest that is kept there
abbrev pub IsContention : Plan → List Timed → ℕ → Contention → Type 0
IsContention plan log address new = Leads plan address [] nothing_contended log new

-- the last of these lines has this time
abbrev pub IsNow : List Timed → Option ℕ → Type 0
IsNow log time = (before : List Timed) × (x : Timed) × (log ≡ before ++ x ∷ []) × (x.time ≡ time)

-- one that took the address is silent for as long as it waits
abbrev pub IsHeard : Option ℕ → ℕ → Type 0
IsHeard taken now = (since : ℕ) → taken ≡ Some since → since + claim_wait ≤ now

-- at the last of these lines a contest runs at the address, and who defends it isn't silent
pub record IsContested (plan : Plan) (log : List Timed) (address : ℕ) (c : Contest) : Type 0 where
  pub contention : Contention
  pub contention_is : IsContention plan log address contention
  pub time : Option ℕ
  pub time_is : IsNow log time
  pub runs : Runs contention.contest time c
  pub heard : IsHeard c.taken runs.now

-- who is reported to be behind an address at the last of these lines: within a contest who defends it, else who stands there
abbrev pub IsTaken : Plan → List Timed → ℕ → Who → Type 0
IsTaken plan log address who =
    ((c : Contest) × IsContested plan log address c × (who ≡ c.defender))
    ⊎ (((c : Contest) → ¬ IsContested plan log address c) × IsWho plan (frames_of log) address who)
