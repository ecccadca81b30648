use Rattle.std.proofs.Common.{◌≡◌, drop}
use Rattle.j39_search.specs.ListPlaces.{in_each}
use Rattle.j39_vehicle_times.specs.FoundTimes.{joined, need_flows_at, youngest}
use Rattle.j39_vehicle_times.proofs.needs.youngest_of.Given as goal

abbrev pub invariant-loop-place : goal.invariant-loop-place
invariant-loop-place l = joined l.best (youngest (in_each (need_flows_at l.routes.vehicle.now l.delays l.need) l.place (drop l.place l.flows)))
    ≡ youngest (in_each (need_flows_at l.routes.vehicle.now l.delays l.need) 0 l.flows)
