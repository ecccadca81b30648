use Rattle.j39_search.specs.ListPlaces.{each}
use Rattle.j39_vehicle_times.specs.FoundTimes.{need_time_findings}
use Rattle.j39_vehicle_times.proofs.checking.find_in_needs.Goals as goal

pub returns : goal.returns
unfolding need_time_findings each
returns c = rw c.deref.ensures.value at c.find_tested.ensures
