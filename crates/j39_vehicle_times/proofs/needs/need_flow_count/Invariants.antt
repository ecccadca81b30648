use Rattle.std.proofs.Common.{◌≡◌, ◌≤◌, ◌+◌, length, drop}
use Rattle.j39_search.specs.ListPlaces.{in_each}
use Rattle.j39_vehicle_times.specs.FoundTimes.{need_places_at}
use Rattle.j39_vehicle_times.proofs.needs.need_flow_count.Given as goal

abbrev pub invariant-loop-place : goal.invariant-loop-place
invariant-loop-place l = record {
  total : l.count + length (in_each (need_places_at l.routes.vehicle.now l.need) l.place (drop l.place l.flows))
      ≡ length (in_each (need_places_at l.routes.vehicle.now l.need) 0 l.flows);
  few : l.count ≤ l.place;
}
