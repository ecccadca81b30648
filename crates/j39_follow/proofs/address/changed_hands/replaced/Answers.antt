use Rattle.std.proofs.Common.{sym, subst, ◌∙◌}
use Rattle.j39_follow.specs.Holders.{IsHolder}
use Rattle.j39_follow.proofs.Addresses.Replaced.{another_holds, none_claims, none_holds, one_holds}
use Rattle.j39_follow.proofs.address.changed_hands.replaced.Goals as goal

pub returns-in_default : goal.returns-in_default
returns-in_default c = λ frames none.
    none_holds frames c.args.frame.now (subst (IsHolder frames c.args.frame.now.ident.sa) c.in_default.is none)

pub returns-then-not-claims_address : goal.returns-then-not-claims_address
returns-then-not-claims_address c = λ frames holds.
    none_claims frames c.args.frame.now (sym c.claims_address.ensures ∙ c.if-not-claims_address.true)

pub returns-then-to_bits-holder : goal.returns-then-to_bits-holder
returns-then-to_bits-holder c = λ frames holds.
    one_holds frames c.args.frame.now c.in-Some.holder (sym c.claims_address.ensures ∙ c.if-not-claims_address.false)
    (subst (IsHolder frames c.args.frame.now.ident.sa) c.in-Some.is holds)
    (sym (c.to_bits.ensures.value ∙ c.carried_name.ensures) ∙ c.if-to_bits-holder.true)

pub returns : goal.returns
returns c = λ frames holds.
    another_holds frames c.args.frame.now c.in-Some.holder (sym c.claims_address.ensures ∙ c.if-not-claims_address.false)
    (subst (IsHolder frames c.args.frame.now.ident.sa) c.in-Some.is holds)
    (λ e. c.if-to_bits-holder.false ((c.to_bits.ensures.value ∙ c.carried_name.ensures) ∙ e))
