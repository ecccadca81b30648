use Rattle.j39_findings.specs.Standing.{IsMover}
use Rattle.j39_findings.proofs.standing.mover_of.Given as goal

abbrev pub invariant-loop-unit : goal.invariant-loop-unit
invariant-loop-unit l = IsMover l.units l.unit-index l.fn.firsts l.mover
