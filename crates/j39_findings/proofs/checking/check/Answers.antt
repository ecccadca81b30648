use Rattle.std.proofs.Common.{List, subst, sym}
use Rattle.j39_findings.specs.declared.checking.finding.Finding.{Finding}
use Rattle.j39_findings.specs.Findings.{AreFindings}
use Rattle.j39_findings.proofs.FoundLaws.{are_findings}
use Rattle.j39_findings.proofs.FoundParts.{wants_memory}
use Rattle.j39_findings.proofs.checking.check.Goals as goal

pub returns-in_err-find_all-clause-memory : goal.returns-in_err-find_all-clause-memory
returns-in_err-find_all-clause-memory c = (wants_memory c.args.plan.now _ _ c.from_residual.ensures.1 c.in_err-find_all.ensures).0

pub returns-in_err-find_all-clause-clean : goal.returns-in_err-find_all-clause-clean
returns-in_err-find_all-clause-clean c = (wants_memory c.args.plan.now _ _ c.from_residual.ensures.1 c.in_err-find_all.ensures).1

pub returns-clause-exact : goal.returns-clause-exact
returns-clause-exact c =
    let P : List Finding → Type 0 = AreFindings c.args.plan.now in
    let list = rw (c.new-findings.ensures.items) at c.in_ok-find_all.ensures in
    subst P (sym list) (are_findings c.args.plan.now)
