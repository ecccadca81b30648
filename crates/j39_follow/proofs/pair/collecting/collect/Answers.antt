use Rattle.std.proofs.Common.{[], ◌∷◌, inl, inr, sym, subst}
use Rattle.j39_tp.specs.declared.packet.Packet.{Packet}
use Rattle.j39_follow.specs.inside.Collecting.{CollectsOn}
use Rattle.j39_follow.proofs.Pairs.Collecting.{leads_past_cts}
use Rattle.j39_follow.proofs.pair.collecting.collect.Goals as goal

pub returns-in-Abort : goal.returns-in-Abort
returns-in-Abort c = c.without.ensures c.args.packet.now (c.in-Abort.reason, inl c.in-Abort.is)

pub returns-in-EndAck : goal.returns-in-EndAck
returns-in-EndAck c = c.without-in-EndAck.ensures c.args.packet.now (c.in-EndAck.size, inr c.in-EndAck.is)

pub returns-in-Cts : goal.returns-in-Cts
returns-in-Cts c =
    subst (λ (p : Packet). CollectsOn c.args.collected c.args.collected (p ∷ [])) (sym c.in-Cts.is)
    (leads_past_cts c.args.collected c.in-Cts.count c.in-Cts.first c.in-Cts.pgn)
