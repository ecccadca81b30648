-- Who is shown behind an address in a contest, and for how long.
use Rattle.std.specs.Prelude.{◌≡◌, ◌⊎◌, ◌+◌, ◌<◌, ◌≤◌, ℕ, true, List, ◌∷◌, ◌++◌, Some}
use Rattle.j39_id.specs.Addresses.{in_pool}
use Rattle.j39_network.specs.declared.plan.Plan.{Plan}
use Rattle.j39_follow.specs.Contests.{IsGuessed, IsNow, IsTaken, Timed, claim_wait, frames_of, likely_named}
use Rattle.j39_follow.specs.Holders.{Claims, HoldsByFrames}
use Rattle.j39_follow.specs.Who.{IsSameParty, IsWho}
use Rattle.j39_follow.specs.declared.address.who.Who.{Who}

-- less than 250 ms before the last of these lines an address of 128 to 247 was claimed, and the party is that of another NAME: one that held
-- the address up to there, or, where none held it, that of the unit that would claim it first
pub record IsOpposed (plan : Plan) (log : List Timed) (address : ℕ) (who : Who) : Type 0 where
  pub before : List Timed
  pub line : Timed
  pub behind : List Timed
  pub row : log ≡ before ++ line ∷ behind
  pub claimant : ℕ
  pub claims : Claims line.frame claimant address
  pub pool : in_pool address ≡ true
  pub opponent : ℕ
  pub held : HoldsByFrames (frames_of before) opponent address ⊎ IsGuessed plan (frames_of before) address opponent
  pub who_is : who ≡ likely_named plan opponent
  pub another : ¬ IsSameParty (likely_named plan opponent) (likely_named plan claimant)
  pub since : ℕ
  pub since_is : line.time ≡ Some since
  pub now : ℕ
  pub now_is : IsNow log (Some now)
  pub begun : since ≤ now
  pub lasts : now < since + claim_wait

-- ---- a law

-- who is taken to be behind an address stands there, or is opposed by such a claim
abbrev pub ContestsAreShort : Type 0
ContestsAreShort = (plan : Plan) (log : List Timed) (address : ℕ) (who : Who) → IsTaken plan log address who
    → IsWho plan (frames_of log) address who ⊎ IsOpposed plan log address who
