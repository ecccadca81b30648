use Rattle.j39_search.specs.ListPlaces.{each}
use Rattle.j39_vehicle_findings.specs.FoundPaths.{need_findings}
use Rattle.j39_vehicle_findings.proofs.checking.needs.find_in_needs.Goals as goal

pub returns : goal.returns
unfolding need_findings each
returns c = rw c.deref.ensures.value at c.find_tested.ensures
