use Rattle.std.proofs.Common.{length, ltb, subst}
use Rattle.j39_findings.specs.Standing.{AreFirsts, DecidesAtEach, AreTwoThere, IsMover}
use Rattle.j39_findings.proofs.WhoIsAlone.{alone_by_arrays}
use Rattle.j39_findings.proofs.WhoStays.{some_come, stated}
use Rattle.j39_findings.proofs.standing.Standing.new.Goals as goal

pub returns-clause-stays : goal.returns-clause-stays
returns-clause-stays c =
    let plan = c.args.plan.now in
    stated plan c.firsts_of-firsts.result c.mover_of-mover.result
    (subst (λ units. AreFirsts units (length units) c.firsts_of-firsts.result) c.as_slice.ensures.value c.firsts_of-firsts.ensures)
    (subst (λ units. IsMover units (length units) c.firsts_of-firsts.result c.mover_of-mover.result) c.as_slice-2.ensures.value c.mover_of-mover.ensures)
    (ltb 0 plan.strangers) (some_come plan.strangers)

pub returns-clause-alone : goal.returns-clause-alone
returns-clause-alone c =
    let plan = c.args.plan.now in
    alone_by_arrays plan c.firsts_of-firsts.result c.mover_of-mover.result c.shared_addresses.result
    (subst (λ units. AreFirsts units (length units) c.firsts_of-firsts.result) c.as_slice.ensures.value c.firsts_of-firsts.ensures)
    (subst (λ units. IsMover units (length units) c.firsts_of-firsts.result c.mover_of-mover.result) c.as_slice-2.ensures.value c.mover_of-mover.ensures)
    (subst (λ units. DecidesAtEach (AreTwoThere units (length units)) c.shared_addresses.result) c.as_slice-3.ensures.value c.shared_addresses.ensures)
