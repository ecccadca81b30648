use Rattle.std.proofs.Common.{sym, subst}
use Rattle.j39_log.specs.GroupSpans.{IsSpanOf}
use Rattle.j39_follow.proofs.Flows.Numbered.{first_of_span, no_first}
use Rattle.j39_follow.proofs.flow.tally.first_in.Goals as goal

pub returns-in-Some : goal.returns-in-Some
returns-in-Some c =
    let groups = c.args.groups.now.groups.items in
    sym (first_of_span groups c.args.pgn c.in-Some.span
    (subst (IsSpanOf groups c.args.pgn) c.in-Some.is c.span.ensures))

pub returns-in-None : goal.returns-in-None
returns-in-None c =
    let groups = c.args.groups.now.groups.items in
    sym (no_first groups c.args.pgn (subst (IsSpanOf groups c.args.pgn) c.in-None.is c.span.ensures))
