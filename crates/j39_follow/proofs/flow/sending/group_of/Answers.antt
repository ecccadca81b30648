use Rattle.std.proofs.Common.{subst}
use Rattle.j39_log.specs.GroupSpans.{IsSpanOf}
use Rattle.j39_follow.proofs.Flows.Numbered.{none_numbered}
use Rattle.j39_follow.proofs.flow.sending.group_of.Goals as goal

pub group_in-requires : goal.group_in-requires
group_in-requires c = subst (IsSpanOf c.args.groups.now.groups.items c.args.pgn) c.in-Some.is c.span.ensures

pub returns-in_default : goal.returns-in_default
returns-in_default c =
    none_numbered c.args.groups.now c.args.pgn c.args.bytes.now c.args.sent
    (subst (IsSpanOf c.args.groups.now.groups.items c.args.pgn) c.in_default.is c.span.ensures)
