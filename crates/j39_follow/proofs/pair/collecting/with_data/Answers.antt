use Rattle.std.proofs.Common.{Option, None, Some, sym, ap, subst, ◌∙◌, [], ◌∷◌, eqb-true}
use Rattle.std.proofs.lemmas.Bool.{eqb-false}
use Rattle.j39_tp.specs.declared.packet.Packet.TheVariants.{Dt}
use Rattle.j39_follow.specs.declared.pair.collected.Collected.{Collected}
use Rattle.j39_follow.specs.inside.Collecting.{CollectsOn}
use Rattle.j39_follow.proofs.Pairs.Collecting.{leads_by_data, leads_past_data, leads_whole}
use Rattle.j39_follow.proofs.pair.collecting.with_data.Goals as goal

pub returns-in_default : goal.returns-in_default
returns-in_default c =
    subst (λ (o : Option Collected). CollectsOn o None (Dt c.args.number c.args.chunk ∷ [])) (sym c.in_default.is) (leads_past_data c.args.number c.args.chunk)

pub returns-then-is_in_order : goal.returns-then-is_in_order
returns-then-is_in_order c =
    subst (λ (o : Option Collected). CollectsOn o None (Dt c.args.number c.args.chunk ∷ [])) (sym c.in-Some.is)
    (leads_whole c.in-Some.collected c.added-collected.result c.args.number c.args.chunk c.added-collected.ensures
    (eqb-true _ _ (sym c.is_in_order.ensures ∙ c.if-is_in_order.true)))

pub returns-else-is_in_order : goal.returns-else-is_in_order
returns-else-is_in_order c =
    subst (λ (o : Option Collected). CollectsOn o (Some c.added-collected.result) (Dt c.args.number c.args.chunk ∷ [])) (sym c.in-Some.is)
    (leads_by_data c.in-Some.collected c.added-collected.result c.args.number c.args.chunk c.added-collected.ensures
    (eqb-false _ _ (sym c.is_in_order.ensures ∙ c.if-is_in_order.false)))
