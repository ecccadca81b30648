use Rattle.std.proofs.Common.{◌≢◌, [], ◌∙◌, rules}
use Rattle.j39_findings.proofs.FoundLaws.{none_from_clean}
use Rattle.j39_findings.proofs.checking.checked_plan.checked.Goals as goal

pub returns-in-Ok-2-clause-clean : goal.returns-in-Ok-2-clause-clean
returns-in-Ok-2-clause-clean c = λ clean.
    let some : c.in-Ok-2.findings.items ≢ [] = search rules in
    absurd (some (c.in-Ok-2.ensures.list ∙ none_from_clean c.args.plan clean))
