use Rattle.std.proofs.Common.{map, take}
use Rattle.j39_line_findings.specs.AllVariants.{IsOneOf}
use Rattle.j39_line_bounds.specs.LineStandings.{AreStandingsAmong}
use Rattle.j39_line_bounds.proofs.standing.line_standings.Given as goal

abbrev pub invariant-loop-variant : goal.invariant-loop-variant
invariant-loop-variant l = AreStandingsAmong (IsOneOf (map (λ v. v.items) (take l.variant-index l.variants))) l.line l.standings.items
