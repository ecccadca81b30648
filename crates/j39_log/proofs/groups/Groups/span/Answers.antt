use Rattle.std.proofs.Common.{◌∙◌, sym, subst}
use Rattle.j39_log.specs.GroupSpans.{IsSpanOf}
use Rattle.j39_log.proofs.groups.Groups.span.Goals as goal

pub returns : goal.returns
returns c =
    rw (← c.self.view_is) (subst (IsSpanOf c.self.inside.plan.now.groups.items c.args.pgn) (sym (c.copied.ensures ∙ c.get.ensures.value))
    (c.self.invariant.index c.args.pgn))
