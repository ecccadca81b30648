use Rattle.std.proofs.Common.{ℕ, [], ◌∷◌, ◌||◌, ◌==◌, if◌then◌else◌, sym, subst, ◌∙◌}
use Rattle.std.proofs.lemmas.Result.{on_ok_weaker}
use Rattle.j39_log.proofs.Outcomes.{both_ok}
use Rattle.j39_follow.specs.inside.Collecting.{CollectsOn, collected_for, pair_key}
use Rattle.j39_follow.proofs.Pairs.Ways.{led_by_abort, led_by_other, led_by_receipt}
use Rattle.j39_follow.proofs.pair.collections.Collections.hear.Goals as goal

pub returns-then-is_receipt : goal.returns-then-is_receipt
returns-then-is_receipt c =
    both_ok c.turn.result _ _ _ c.turn.ensures.one c.turn.ensures.others
    (λ one others. led_by_receipt c.args.self.now c.turn.new.self c.args.packet.now c.args.ident (sym c.is_receipt.ensures ∙ c.if-is_receipt.true)
    (subst (λ (k : ℕ). CollectsOn (collected_for c.args.self.now k) (collected_for c.turn.new.self k) (c.args.packet.now ∷ [])) c.pair_key-back.ensures one)
    (λ other no. others other (λ e. no (e ∙ c.pair_key-back.ensures))))

pub returns-then-is_abort : goal.returns-then-is_abort
returns-then-is_abort c =
    on_ok_weaker c.turn_both.result
    (λ each. led_by_abort c.args.self.now c.turn_both.new.self c.args.packet.now c.args.ident (sym c.is_abort.ensures ∙ c.if-is_abort.true)
    (λ key. subst (λ (k : ℕ). CollectsOn (collected_for c.args.self.now key) (collected_for c.turn_both.new.self key)
    (if k == key || pair_key c.args.ident.ps c.args.ident.sa == key then c.args.packet.now ∷ [] else [])) c.pair_key-there.ensures
    (subst (λ (k : ℕ). CollectsOn (collected_for c.args.self.now key) (collected_for c.turn_both.new.self key)
    (if c.pair_key-there.result == key || k == key then c.args.packet.now ∷ [] else [])) c.pair_key-back.ensures (each key))))
    c.turn_both.ensures

pub returns : goal.returns
returns c =
    both_ok c.turn-2.result _ _ _ c.turn-2.ensures.one c.turn-2.ensures.others
    (λ one others. led_by_other c.args.self.now c.turn-2.new.self c.args.packet.now c.args.ident
    (sym c.is_receipt.ensures ∙ c.if-is_receipt.false) (sym c.is_abort.ensures ∙ c.if-is_abort.false)
    (subst (λ (k : ℕ). CollectsOn (collected_for c.args.self.now k) (collected_for c.turn-2.new.self k) (c.args.packet.now ∷ [])) c.pair_key-there.ensures one)
    (λ other no. others other (λ e. no (e ∙ c.pair_key-there.ensures))))
