use Rattle.std.proofs.Common.{◌≡◌, ◌++◌, List, drop}
use Rattle.j39_search.specs.ListPlaces.{in_each}
use Rattle.j39_follow.specs.FollowText.{request_end, request_ends}
use Rattle.j39_follow.specs.declared.request.event.Event.{Event}
use Rattle.j39_follow.specs.inside.Exchanging.{AreExchanges}
use Rattle.j39_follow.proofs.request.request_ends.write_requests.Given as goal

abbrev pub invariant-loop-place : goal.invariant-loop-place
invariant-loop-place l = (events : List Event) → AreExchanges l.plan l.exchanges events
    → l.text ++ in_each (request_end l.plan events) l.place (drop l.place l.plan.requests.items) ≡ l.initial.text ++ request_ends l.plan events
