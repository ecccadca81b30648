use Rattle.std.proofs.Common.{◌≡◌, take}
use Rattle.j39_load.specs.LineLists.{lines_of_each}
use Rattle.j39_line_findings.specs.Conditions.{astray_by}
use Rattle.j39_line_witnesses.specs.FlowTests.{flow_test}
use Rattle.j39_line_witnesses.specs.Presences.{conditions_in}
use Rattle.j39_line_witnesses.proofs.conditions.astray_by_each.Given as goal

abbrev pub invariant-loop-answered : goal.invariant-loop-answered
invariant-loop-answered l = conditions_in l.found.items ≡ lines_of_each
    (astray_by l.line l.place (flow_test l.line.plan.groups.items l.one) (flow_test l.line.plan.groups.items l.other)) 0
    (take l.answered l.line.plan.flows.items)
