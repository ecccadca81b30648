use Rattle.std.proofs.Common.{[], map, sym, subst}
use Rattle.std.proofs.lemmas.List.{take_all}
use Rattle.j39_line_findings.specs.AllVariants.{IsOneOf}
use Rattle.j39_line_bounds.specs.LineStandings.{AreStandingsAmong}
use Rattle.j39_line_bounds.proofs.Standings.{next_one, none_yet}
use Rattle.j39_line_bounds.proofs.standing.line_standings.Goals as goal

pub loop-variant-init : goal.loop-variant-init
loop-variant-init c =
    subst (AreStandingsAmong (IsOneOf []) c.args.line.now) (sym (rw c.deref.ensures.value at c.in_ok-standings.ensures)) (none_yet c.args.line.now)

pub loop-variant-preserved : goal.loop-variant-preserved
loop-variant-preserved c =
    let line = c.args.line.now in
    next_one line (λ v. v.items) c.args.variants.now c.loop-variant.variant-index c.variant-item.result c.deref-in-loop-variant.result.now
    c.loop-variant.standings.items c.in_ok-standings-2.standings.items c.loop-variant-test.true c.variant-item.is c.deref-in-loop-variant.ensures.value
    c.loop-variant.invariant
    (λ ws are.
    c.in_ok-standings-2.ensures ws
    (subst (AreStandingsAmong (IsOneOf ws) c.args.line.now) (sym c.deref-in-loop-variant-2.ensures.value) are))

pub returns : goal.returns
returns c =
    subst (λ vs. AreStandingsAmong (IsOneOf (map (λ v. v.items) vs)) c.args.line.now c.loop-variant.standings.items)
    (take_all c.loop-variant.variant-index c.args.variants.now c.loop-variant-test.false) c.loop-variant.invariant
