use Rattle.std.proofs.Common.{◌≡◌, ◌++◌, List, drop}
use Rattle.j39_search.specs.ListPlaces.{in_each}
use Rattle.j39_follow.specs.FollowText.{group_end, group_ends}
use Rattle.j39_follow.specs.declared.message.Sort.{Sort}
use Rattle.j39_follow.specs.inside.Tallies.{IsTally}
use Rattle.j39_follow.proofs.flow.endings.write_groups.Given as goal

abbrev pub invariant-loop-place : goal.invariant-loop-place
invariant-loop-place l = (sent : List Sort) → IsTally l.plan l.tally sent
    → l.text ++ in_each (group_end l.plan sent) l.place (drop l.place l.plan.groups.items) ≡ l.initial.text ++ group_ends l.plan sent
