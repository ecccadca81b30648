use Rattle.j39_findings.specs.Standing.{DecidesAtEach, AreTwoThere, IsPlannedThere}
use Rattle.j39_findings.proofs.standing.shared_addresses.Given as goal

abbrev pub invariant-loop-unit : goal.invariant-loop-unit
invariant-loop-unit l = DecidesAtEach (IsPlannedThere l.units l.unit-index) l.planned × DecidesAtEach (AreTwoThere l.units l.unit-index) l.shared
