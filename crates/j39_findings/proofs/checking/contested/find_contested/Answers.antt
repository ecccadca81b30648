use Rattle.std.proofs.Common.{◌++◌, sym, ap, ◌∙◌, subst}
use Rattle.std.proofs.lemmas.List.{append-nil}
use Rattle.j39_findings.specs.declared.checking.finding.Finding.TheVariants.{FlowContested}
use Rattle.j39_search.specs.Adding.{Adds}
use Rattle.j39_findings.specs.Found.{is_contested}
use Rattle.j39_search.specs.ListPlaces.{each}
use Rattle.j39_findings.specs.Standing.{alone_of}
use Rattle.j39_findings.proofs.WhoIsAlone.{contested_by, not_live}
use Rattle.j39_findings.proofs.checking.contested.find_contested.Goals as goal

pub returns-then-not-plan : goal.returns-then-not-plan
returns-then-not-plan c =
    let plan = c.args.plan.now in
    sym (ap (λ fs. c.args.findings.now.items ++ fs)
    (not_live plan.live plan.keep_free plan.strangers plan.units.items plan.flows.items c.if-not-plan.true) ∙ append-nil c.args.findings.now.items)

pub returns : goal.returns
unfolding each
returns c =
    let plan = c.args.plan.now in
    let found : Adds c.find_tested.result c.args.findings.now.items c.find_tested.new.findings.items
    (each (is_contested (alone_of c.new-standing.result plan.keep_free) plan.units.items) FlowContested 0 plan.flows.items) =
    rw (c.as_slice.ensures.value, c.as_slice-2.ensures.value) at c.find_tested.ensures in
    subst (λ fs. Adds c.find_tested.result c.args.findings.now.items c.find_tested.new.findings.items fs)
    (contested_by plan (alone_of c.new-standing.result plan.keep_free) c.new-standing.ensures.alone c.if-not-plan.false) found
