use Rattle.j39_load.proofs.Before.{some_left, some_right}
use Rattle.j39_search.proofs.WantedMemory.{on_err}
use Rattle.j39_load.proofs.findings.faults.all_findings.Goals as goal

pub returns-in_err-findings-clause-memory : goal.returns-in_err-findings-clause-memory
returns-in_err-findings-clause-memory c = on_err _ _ _ c.from_residual.ensures.1 (some_left _ _ c.in_err-findings.ensures.memory)

pub returns-in_err-find_old_needs-clause-memory : goal.returns-in_err-find_old_needs-clause-memory
returns-in_err-find_old_needs-clause-memory c =
    on_err _ _ _ c.from_residual-in_err-find_old_needs.ensures.1
    (some_right _ _ (some_left _ _ (rw (c.deref.ensures.value, c.deref-2.ensures.value, c.deref-3.ensures.value) at c.in_err-find_old_needs.ensures.memory)))

pub returns-in_err-find_asked_too_often-clause-memory : goal.returns-in_err-find_asked_too_often-clause-memory
returns-in_err-find_asked_too_often-clause-memory c =
    on_err _ _ _ c.from_residual-in_err-find_asked_too_often.ensures.1
    (some_right _ _ (some_right _ _ (rw (c.deref-4.ensures.value, c.deref-5.ensures.value) at c.in_err-find_asked_too_often.ensures.memory)))
