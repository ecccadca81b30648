use Rattle.std.proofs.Common.{◌≡◌, take}
use Rattle.j39_load.specs.LineLists.{lines_of_each}
use Rattle.j39_line_findings.specs.Conditions.{sent_with_any}
use Rattle.j39_line_witnesses.specs.Presences.{conditions_in}
use Rattle.j39_line_witnesses.proofs.private_pairs.PrivatePair.sent_together.Given as goal

abbrev pub invariant-loop-place : goal.invariant-loop-place
invariant-loop-place l = conditions_in l.found.items ≡ lines_of_each
    (sent_with_any l.self.line.now l.self.first l.self.second l.self.group.now l.self.other.now) 0 (take l.place l.self.line.now.plan.flows.items)
