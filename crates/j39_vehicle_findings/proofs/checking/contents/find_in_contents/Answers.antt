use Rattle.j39_search.proofs.AddingLemmas.{refuses, adds_behind, some_left, some_right}
use Rattle.j39_vehicle_findings.specs.FoundPaths.{content_findings}
use Rattle.j39_vehicle_findings.proofs.checking.contents.find_in_contents.Goals as goal

pub returns-in_err-find_faulty : goal.returns-in_err-find_faulty
unfolding content_findings
returns-in_err-find_faulty c =
    refuses _ _ _ _ _ c.from_residual.ensures.1 (some_left _ _ c.in_err-find_faulty.ensures)

pub returns-in_err-find_each : goal.returns-in_err-find_each
unfolding content_findings
returns-in_err-find_each c =
    refuses _ _ _ _ _ c.from_residual-in_err-find_each.ensures.1
    (some_right _ _ (some_left _ _ (rw c.deref.ensures.value at c.in_err-find_each.ensures)))

pub returns : goal.returns
unfolding content_findings
returns c =
    adds_behind _ _ _ _ _ _ c.in_ok-find_faulty.ensures
    (adds_behind _ _ _ _ _ _ (rw c.deref.ensures.value at c.in_ok-find_each.ensures)
    (rw c.deref-2.ensures.value at c.find_pairs.ensures))
