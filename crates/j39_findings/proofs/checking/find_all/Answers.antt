use Rattle.j39_search.proofs.AddingLemmas.{refuses}
use Rattle.j39_findings.proofs.FoundParts.{flows_some, groups_some, kept_some, needs_some, records_some, requests_some, signals_some, silent_some, texts_some}
use Rattle.j39_findings.proofs.FoundParts.{units_some, unsent_some, whole_list}
use Rattle.j39_findings.proofs.checking.find_all.Goals as goal

pub returns-in_err-find_in_units : goal.returns-in_err-find_in_units
returns-in_err-find_in_units c = refuses _ _ _ _ _ c.from_residual.ensures.1
    (units_some c.args.plan.now (rw (c.deref.ensures.value) at c.in_err-find_in_units.ensures))

pub returns-in_err-find_in_groups : goal.returns-in_err-find_in_groups
returns-in_err-find_in_groups c = refuses _ _ _ _ _ c.from_residual-in_err-find_in_groups.ensures.1
    (groups_some c.args.plan.now (rw (c.deref-2.ensures.value, c.deref-3.ensures.value) at c.in_err-find_in_groups.ensures))

pub returns-in_err-find_in_signals : goal.returns-in_err-find_in_signals
returns-in_err-find_in_signals c = refuses _ _ _ _ _ c.from_residual-in_err-find_in_signals.ensures.1
    (signals_some c.args.plan.now (rw (c.deref-4.ensures.value) at c.in_err-find_in_signals.ensures))

pub returns-in_err-find_in_flows : goal.returns-in_err-find_in_flows
returns-in_err-find_in_flows c = refuses _ _ _ _ _ c.from_residual-in_err-find_in_flows.ensures.1
    (flows_some c.args.plan.now (rw (c.deref-5.ensures.value, c.deref-6.ensures.value) at c.in_err-find_in_flows.ensures))

pub returns-in_err-find_kept : goal.returns-in_err-find_kept
returns-in_err-find_kept c = refuses _ _ _ _ _ c.from_residual-in_err-find_kept.ensures.1
    (kept_some c.args.plan.now (rw (c.deref-7.ensures.value) at c.in_err-find_kept.ensures))

pub returns-in_err-find_unsent : goal.returns-in_err-find_unsent
returns-in_err-find_unsent c = refuses _ _ _ _ _ c.from_residual-in_err-find_unsent.ensures.1
    (unsent_some c.args.plan.now (rw (c.deref-8.ensures.value, c.deref-9.ensures.value) at c.in_err-find_unsent.ensures))

pub returns-in_err-find_in_records : goal.returns-in_err-find_in_records
returns-in_err-find_in_records c = refuses _ _ _ _ _ c.from_residual-in_err-find_in_records.ensures.1
    (records_some c.args.plan.now (rw (c.deref-10.ensures.value) at c.in_err-find_in_records.ensures))

pub returns-in_err-find_in_texts : goal.returns-in_err-find_in_texts
returns-in_err-find_in_texts c = refuses _ _ _ _ _ c.from_residual-in_err-find_in_texts.ensures.1
    (texts_some c.args.plan.now (rw (c.deref-11.ensures.value) at c.in_err-find_in_texts.ensures))

pub returns-in_err-find_in_needs : goal.returns-in_err-find_in_needs
returns-in_err-find_in_needs c = refuses _ _ _ _ _ c.from_residual-in_err-find_in_needs.ensures.1
    (needs_some c.args.plan.now (rw (c.deref-12.ensures.value, c.deref-13.ensures.value, c.deref-14.ensures.value) at c.in_err-find_in_needs.ensures))

pub returns-in_err-find_in_requests : goal.returns-in_err-find_in_requests
returns-in_err-find_in_requests c = refuses _ _ _ _ _ c.from_residual-in_err-find_in_requests.ensures.1
    (requests_some c.args.plan.now (rw (c.deref-15.ensures.value, c.deref-16.ensures.value, c.deref-17.ensures.value) at c.in_err-find_in_requests.ensures))

pub returns-in_err-find_silent : goal.returns-in_err-find_silent
returns-in_err-find_silent c = refuses _ _ _ _ _ c.from_residual-in_err-find_silent.ensures.1
    (silent_some c.args.plan.now (rw (c.deref-18.ensures.value) at c.in_err-find_silent.ensures))

pub returns : goal.returns
returns c =
    whole_list c.args.plan.now _ _ _ _ _ _ _ _ _ _ _ _ _ _
    (rw (c.deref.ensures.value) at c.in_ok-find_in_units.ensures)
    (rw (c.deref-2.ensures.value, c.deref-3.ensures.value) at c.in_ok-find_in_groups.ensures)
    (rw (c.deref-4.ensures.value) at c.in_ok-find_in_signals.ensures)
    (rw (c.deref-5.ensures.value, c.deref-6.ensures.value) at c.in_ok-find_in_flows.ensures)
    (rw (c.deref-7.ensures.value) at c.in_ok-find_kept.ensures)
    (rw (c.deref-8.ensures.value, c.deref-9.ensures.value) at c.in_ok-find_unsent.ensures)
    (rw (c.deref-10.ensures.value) at c.in_ok-find_in_records.ensures)
    (rw (c.deref-11.ensures.value) at c.in_ok-find_in_texts.ensures)
    (rw (c.deref-12.ensures.value, c.deref-13.ensures.value, c.deref-14.ensures.value) at c.in_ok-find_in_needs.ensures)
    (rw (c.deref-15.ensures.value, c.deref-16.ensures.value, c.deref-17.ensures.value) at c.in_ok-find_in_requests.ensures)
    (rw (c.deref-18.ensures.value) at c.in_ok-find_silent.ensures)
    c.find_contested.ensures
