use Rattle.std.proofs.Common.{◌≡◌, take}
use Rattle.j39_load.specs.LineLists.{lines_of_each}
use Rattle.j39_line_findings.specs.Conditions.{flow_where}
use Rattle.j39_line_witnesses.specs.FlowTests.{flow_test}
use Rattle.j39_line_witnesses.specs.Presences.{parts_in}
use Rattle.j39_line_witnesses.proofs.lists.flows_where.Given as goal

abbrev pub invariant-loop-place : goal.invariant-loop-place
invariant-loop-place l = parts_in l.found.items ≡ lines_of_each (flow_where (flow_test l.line.plan.groups.items l.test)) 0
    (take l.place l.line.plan.flows.items)
