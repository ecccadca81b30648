-- How long `follow` takes a unit that held an address to be behind it, where another one claims it: 250 ms (SAE J1939-81).
use Rattle.std.specs.Prelude.{◌≡◌, ℕ, ◌+◌, ◌<◌, ◌≤◌, List, Some}
use Rattle.j39_network.specs.declared.plan.Plan.{Plan}
use Rattle.j39_follow.specs.Contests.{IsContention, IsNow, IsTaken, Timed, frames_of}
use Rattle.j39_follow.specs.Who.{IsWho}
use Rattle.j39_follow.specs.declared.address.contest.Contention.{Contention}
use Rattle.j39_follow.specs.declared.address.contest.Contest.{Contest}
use Rattle.j39_follow.specs.declared.address.who.Who.{Who}

-- this time lies within 250 ms of the contest's beginning, and who defends the address may send: where it took this by a claim, 250 ms have passed
pub record MaySendInContest (c : Contest) (now : ℕ) : Type 0 where
  pub begun : c.since ≤ now
  pub lasts : now < c.since + 250000
  pub waited : (since : ℕ) → c.taken ≡ Some since → since + 250000 ≤ now

-- so long who defends the address is taken to be behind it, and else who stands there
pub record IsReportedWithin (plan : Plan) (log : List Timed) (address : ℕ) (c : Contest) (now : ℕ) (who : Who) : Type 0 where
  pub within : MaySendInContest c now → who ≡ c.defender
  pub else_stands : ¬ MaySendInContest c now → IsWho plan (frames_of log) address who

abbrev pub ContestsLastAWait : Type 0
ContestsLastAWait = (plan : Plan) (log : List Timed) (address : ℕ) (g : Contention) (c : Contest) (now : ℕ) (who : Who) → IsContention plan log address g
    → g.contest ≡ Some c → IsNow log (Some now) → IsTaken plan log address who → IsReportedWithin plan log address c now who
