use Rattle.j39_findings.specs.Standing.{AreFirsts}
use Rattle.j39_findings.proofs.standing.firsts_of.Given as goal

abbrev pub invariant-loop-unit : goal.invariant-loop-unit
invariant-loop-unit l = AreFirsts l.units l.unit-index l.firsts
