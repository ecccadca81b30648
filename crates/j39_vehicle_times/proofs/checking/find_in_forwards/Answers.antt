use Rattle.j39_search.proofs.AddingLemmas.{adds_behind, refuses, some_left, some_right}
use Rattle.j39_vehicle_times.specs.FoundTimes.{forward_time_findings}
use Rattle.j39_vehicle_times.proofs.checking.find_in_forwards.Goals as goal

pub returns-in_err-find_faulty : goal.returns-in_err-find_faulty
unfolding forward_time_findings
returns-in_err-find_faulty c = refuses _ _ _ _ _ c.from_residual.ensures.1 (some_left _ _ c.in_err-find_faulty.ensures)

pub returns-in_err-find_faulty-2 : goal.returns-in_err-find_faulty-2
unfolding forward_time_findings
returns-in_err-find_faulty-2 c =
    refuses _ _ _ _ _ c.from_residual-in_err-find_faulty-2.ensures.1 (some_right _ _ (some_left _ _ c.in_err-find_faulty-2.ensures))

pub returns : goal.returns
unfolding forward_time_findings
returns c = adds_behind _ _ _ _ _ _ c.in_ok-find_faulty.ensures (adds_behind _ _ _ _ _ _ c.in_ok-find_faulty-2.ensures c.find_faulty-3.ensures)
