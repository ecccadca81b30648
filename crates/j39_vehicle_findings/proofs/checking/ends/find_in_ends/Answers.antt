use Rattle.j39_search.proofs.AddingLemmas.{refuses, adds_behind, some_left, some_right}
use Rattle.j39_vehicle_findings.specs.FoundPaths.{end_findings}
use Rattle.j39_vehicle_findings.proofs.checking.ends.find_in_ends.Goals as goal

pub returns-in_err-find_faulty : goal.returns-in_err-find_faulty
unfolding end_findings
returns-in_err-find_faulty c = refuses _ _ _ _ _ c.from_residual.ensures.1 (some_left _ _ c.in_err-find_faulty.ensures)

pub returns-in_err-find_faulty-2 : goal.returns-in_err-find_faulty-2
unfolding end_findings
returns-in_err-find_faulty-2 c =
    refuses _ _ _ _ _ c.from_residual-in_err-find_faulty-2.ensures.1 (some_right _ _ (some_left _ _ c.in_err-find_faulty-2.ensures))

pub returns-in_err-find_faulty-3 : goal.returns-in_err-find_faulty-3
unfolding end_findings
returns-in_err-find_faulty-3 c =
    refuses _ _ _ _ _ c.from_residual-in_err-find_faulty-3.ensures.1 (some_right _ _ (some_right _ _ (some_left _ _ c.in_err-find_faulty-3.ensures)))

pub returns : goal.returns
unfolding end_findings
returns c =
    adds_behind _ _ _ _ _ _ c.in_ok-find_faulty.ensures
    (adds_behind _ _ _ _ _ _ c.in_ok-find_faulty-2.ensures (adds_behind _ _ _ _ _ _ c.in_ok-find_faulty-3.ensures c.find_faulty-4.ensures))
