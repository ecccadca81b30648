use Rattle.std.proofs.Common.{◌≡◌, ◌++◌, take}
use Rattle.j39_load.specs.LineLists.{lines_of_each}
use Rattle.j39_line_findings.specs.Conditions.{sent_with}
use Rattle.j39_line_witnesses.specs.Presences.{conditions_in}
use Rattle.j39_line_witnesses.proofs.private_pairs.PrivatePair.add_beside.Given as goal

abbrev pub invariant-loop-at : goal.invariant-loop-at
invariant-loop-at l = conditions_in l.found.items ≡ conditions_in l.initial.found.items
    ++ lines_of_each (sent_with l.self.line.now l.self.first l.self.second l.self.group.now l.self.other.now l.place l.flow) 0
    (take l.at l.self.line.now.plan.flows.items)
