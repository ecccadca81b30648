use Rattle.std.proofs.Common.{◌∷◌, [], ◌++◌, sym, subst}
use Rattle.j39_findings.specs.Standing.{stays_of}
use Rattle.j39_line_findings.specs.AllVariants.{IsOneOf}
use Rattle.j39_line_bounds.specs.LineStandings.{AreStandingsAmong}
use Rattle.j39_line_bounds.proofs.Standings.{all_more}
use Rattle.j39_line_bounds.proofs.standing.standings_with.Goals as goal

pub returns : goal.returns
returns c vs are =
    subst (AreStandingsAmong (IsOneOf (vs ++ c.args.variant.now ∷ [])) c.args.line.now) (sym c.in_ok-standings.ensures)
    (all_more c.args.line.now vs c.args.variant.now c.in_ok-plan.plan (stays_of c.new-standing.result) c.args.so_far.now c.in_ok-plan.ensures
    c.new-standing.ensures.stays are)
