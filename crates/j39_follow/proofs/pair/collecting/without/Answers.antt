use Rattle.std.proofs.Common.{Option, None, Some, sym, subst, ◌∙◌, [], ◌∷◌, List, ◌≡◌, eqb-true}
use Rattle.std.proofs.lemmas.Bool.{eqb-false}
use Rattle.j39_tp.specs.declared.packet.Packet.{Packet}
use Rattle.j39_follow.specs.declared.pair.collected.Collected.{Collected}
use Rattle.j39_follow.specs.inside.Collecting.{CollectsOn}
use Rattle.j39_follow.proofs.Pairs.Collecting.{leads_off, leads_on, leads_past}
use Rattle.j39_follow.proofs.pair.collecting.without.Goals as goal

kept_so : (kept old new : Option Collected) (more : List Packet) → kept ≡ old → CollectsOn old new more → CollectsOn kept new more
kept_so kept old new more is on = subst (λ (o : Option Collected). CollectsOn o new more) (sym is) on

pub returns-in_default : goal.returns-in_default
returns-in_default c = λ p closes. kept_so _ None None (p ∷ []) c.in_default.is (leads_past c.args.pgn p closes)

pub returns-then-is_of : goal.returns-then-is_of
returns-then-is_of c = λ p closes.
    let kept = c.in-Some.collected in
    kept_so _ (Some kept) None (p ∷ []) c.in-Some.is (leads_off kept c.args.pgn p closes (eqb-true _ _ (sym c.is_of.ensures ∙ c.if-is_of.true)))

pub returns-else-is_of : goal.returns-else-is_of
returns-else-is_of c = λ p closes.
    let kept = c.in-Some.collected in
    kept_so _ (Some kept) (Some kept) (p ∷ []) c.in-Some.is (leads_on kept c.args.pgn p closes (eqb-false _ _ (sym c.is_of.ensures ∙ c.if-is_of.false)))
