use Rattle.std.proofs.Common.{rules, ◌≡◌, ◌≢◌, ◌++◌, ◌∷◌, [], List, take, append_assoc, None, sym, ap, ◌∙◌}
use Rattle.std.proofs.lemmas.List.{append-nil}
use Rattle.j39_load.specs.LineLists.{lines_of_each}
use Rattle.j39_load.specs.declared.findings.load_finding.LoadFinding.{LoadFinding}
use Rattle.j39_load.specs.inside.FlowSearch.{found_at}
use Rattle.j39_load.proofs.Before.{more, some_stated}
use Rattle.j39_load.proofs.findings.faults.find_each.Goals.{in-Some+in_ok-push, in_default}
use Rattle.j39_load.proofs.findings.faults.find_each.Goals as goal

pub loop-flow-preserved : goal.loop-flow-preserved
loop-flow-preserved c =
    let k = c.loop-flow.flow in
    let delays = c.args.delays.now in
    let old = c.args.findings.now.items in
    let before : List LoadFinding = lines_of_each (found_at c.args.fault) 0 (take k delays) in
    let step = more (found_at c.args.fault) k delays None c.loop-flow-test.true in
    record {
      found = elim (c.match-finding_at.branch) [
        | in-Some+in_ok-push w ↦ rw (w.findings-is, w.in_ok-push.ensures.items)
            (ap (λ (xs : List LoadFinding). xs ++ w.in-Some.finding ∷ []) c.loop-flow.invariant.found
            ∙ append_assoc old before (w.in-Some.finding ∷ [])
            ∙ ap (λ (xs : List LoadFinding). old ++ (before ++ xs)) (sym (w.in-Some.ensures {u = tt}).some)
            ∙ ap (λ (xs : List LoadFinding). old ++ xs) (sym step))
        | in_default w ↦ rw (w.findings-is)
            (c.loop-flow.invariant.found ∙ ap (λ (xs : List LoadFinding). old ++ xs)
            (sym (append-nil before) ∙ ap (λ (xs : List LoadFinding). before ++ xs) (sym (w.in_default.ensures {u = tt}).none) ∙ sym step))
      ];
    }

pub returns-in_err-push-clause-memory : goal.returns-in_err-push-clause-memory
returns-in_err-push-clause-memory c =
    let some : lines_of_each (found_at c.args.fault) 0 c.args.delays.now ≢ [] =
    some_stated (found_at c.args.fault) c.loop-flow.flow c.args.delays.now None c.loop-flow-test.true
    (λ none. let never : c.in-Some.finding ∷ [] ≡ [] = sym (c.in-Some.ensures {u = tt}).some ∙ none in cc) in
    search rules
