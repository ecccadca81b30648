use Rattle.std.proofs.Common.{◌≡◌, ◌++◌, List, drop}
use Rattle.j39_search.specs.ListPlaces.{in_each}
use Rattle.j39_follow.specs.FollowText.{flow_end, flow_ends}
use Rattle.j39_follow.specs.declared.message.Sort.{Sort}
use Rattle.j39_follow.specs.inside.Tallies.{IsTally}
use Rattle.j39_follow.proofs.flow.endings.write_flows.Given as goal

abbrev pub invariant-loop-place : goal.invariant-loop-place
invariant-loop-place l = (sent : List Sort) → IsTally l.plan l.tally sent
    → l.text ++ in_each (flow_end l.plan sent) l.place (drop l.place l.plan.flows.items) ≡ l.initial.text ++ flow_ends l.plan sent
