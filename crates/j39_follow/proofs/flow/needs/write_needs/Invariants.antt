use Rattle.std.proofs.Common.{◌≡◌, ◌++◌, List, drop}
use Rattle.j39_search.specs.ListPlaces.{in_each}
use Rattle.j39_follow.specs.FollowText.{need_end, need_ends}
use Rattle.j39_follow.specs.declared.message.Sort.{Sort}
use Rattle.j39_follow.specs.inside.Tallies.{IsTally}
use Rattle.j39_follow.proofs.flow.needs.write_needs.Given as goal

abbrev pub invariant-loop-place : goal.invariant-loop-place
invariant-loop-place l = (sent : List Sort) → IsTally l.plan l.tally sent
    → l.text ++ in_each (need_end l.plan sent) l.place (drop l.place l.plan.needs.items) ≡ l.initial.text ++ need_ends l.plan sent
