use Rattle.std.proofs.Common.{get_or, sym, subst, None}
use Rattle.j39_log.specs.GroupSpans.{IsSpanOf}
use Rattle.j39_log.specs.LogFrames.{is_planned_as}
use Rattle.j39_log.proofs.Indexes.{no_place, unplanned}
use Rattle.j39_log.proofs.groups.Groups.place.Goals as goal

pub returns-in-None : goal.returns-in-None
returns-in-None c =
    let groups = c.args.self.now.groups.items in
    let none : IsSpanOf groups c.args.pgn None = subst (IsSpanOf groups c.args.pgn) c.in-None.is c.span.ensures in
    sym (no_place (is_planned_as c.args.pgn c.args.bytes.now) groups
    (λ k d less. unplanned c.args.pgn c.args.bytes.now (get_or groups k d) (none k d less)))
