use Rattle.std.proofs.Common.{◌≡◌, ◌≤◌, ◌+◌, ◌*◌, ◌^◌, List, drop}
use Rattle.j39_follow.specs.FollowText.{times_met}
use Rattle.j39_follow.specs.declared.message.Sort.{Sort}
use Rattle.j39_follow.specs.inside.Tallies.{IsTally}
use Rattle.j39_follow.proofs.flow.needs.times_met.Given as goal

abbrev pub invariant-loop-place : goal.invariant-loop-place
invariant-loop-place l = (l.times ≤ l.place * 2 ^ 64) × ((sent : List Sort) → IsTally l.plan l.tally sent
    → l.times + times_met l.plan.requests.items sent l.need l.place (drop l.place l.plan.flows.items)
    ≡ times_met l.plan.requests.items sent l.need 0 l.plan.flows.items)
