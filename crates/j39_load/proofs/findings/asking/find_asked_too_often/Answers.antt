use Rattle.std.proofs.Common.{rules, ◌≡◌, ◌≢◌, ◌++◌, ◌∷◌, [], List, take, append_assoc, sym, ap, ◌∙◌}
use Rattle.std.proofs.lemmas.List.{append-nil}
use Rattle.j39_network.specs.declared.plan.flow_plan.FlowPlan.{FlowPlan}
use Rattle.j39_load.specs.LineLists.{lines_of_each}
use Rattle.j39_load.specs.LoadFindings.{too_often}
use Rattle.j39_load.specs.declared.findings.load_finding.LoadFinding.{LoadFinding}
use Rattle.j39_load.proofs.Before.{more, some_stated}
use Rattle.j39_load.proofs.findings.asking.find_asked_too_often.Goals.{in-Some+in_ok-push, in_default}
use Rattle.j39_load.proofs.findings.asking.find_asked_too_often.Goals as goal

pub loop-place-preserved : goal.loop-place-preserved
loop-place-preserved c =
    let k = c.loop-place.place in
    let flows = c.args.flows.now in
    let flow = c.index-flows-place.result in
    let report = too_often c.args.requests.now in
    let old = c.args.findings.now.items in
    let before : List LoadFinding = lines_of_each report 0 (take k flows) in
    let step = more report k flows flow c.loop-place-test.true in
    let here = ap (λ (f : FlowPlan). old ++ (before ++ report k f)) c.index-flows-place.is in
    record {
      found = elim (c.match-too_often.branch) [
        | in-Some+in_ok-push w ↦ rw (w.findings-is, w.in_ok-push.ensures.items)
            (ap (λ (xs : List LoadFinding). xs ++ w.in-Some.finding ∷ []) c.loop-place.invariant.found
            ∙ append_assoc old before (w.in-Some.finding ∷ [])
            ∙ ap (λ (xs : List LoadFinding). old ++ (before ++ xs)) (sym (w.in-Some.ensures {u = tt}).some)
            ∙ here ∙ ap (λ (xs : List LoadFinding). old ++ xs) (sym step))
        | in_default w ↦ rw (w.findings-is)
            (c.loop-place.invariant.found ∙ ap (λ (xs : List LoadFinding). old ++ xs)
            (sym (append-nil before) ∙ ap (λ (xs : List LoadFinding). before ++ xs) (sym (w.in_default.ensures {u = tt}).none))
            ∙ here ∙ ap (λ (xs : List LoadFinding). old ++ xs) (sym step))
      ];
    }

pub returns-in_err-push-clause-memory : goal.returns-in_err-push-clause-memory
returns-in_err-push-clause-memory c =
    let report = too_often c.args.requests.now in
    let at : report c.loop-place.place c.index-flows-place.result ≢ [] = λ none.
    let never : c.in-Some.finding ∷ [] ≡ [] = sym (c.in-Some.ensures {u = tt}).some ∙ none in cc in
    let some : lines_of_each report 0 c.args.flows.now ≢ [] =
    some_stated report c.loop-place.place c.args.flows.now c.index-flows-place.result c.loop-place-test.true
    (λ none. at (ap (report c.loop-place.place) c.index-flows-place.is ∙ none)) in
    search rules
