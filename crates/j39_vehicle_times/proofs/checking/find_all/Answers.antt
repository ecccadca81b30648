use Rattle.j39_search.proofs.AddingLemmas.{adds_behind, refuses, some_left}
use Rattle.j39_vehicle_times.specs.FoundTimes.{time_findings}
use Rattle.j39_vehicle_times.proofs.checking.find_all.Goals as goal

pub returns-in_err-find_in_forwards : goal.returns-in_err-find_in_forwards
unfolding time_findings
returns-in_err-find_in_forwards c = refuses _ _ _ _ _ c.from_residual.ensures.1 (some_left _ _ c.in_err-find_in_forwards.ensures)

pub returns : goal.returns
unfolding time_findings
returns c = adds_behind _ _ _ _ _ _ c.in_ok-find_in_forwards.ensures c.find_in_needs.ensures
