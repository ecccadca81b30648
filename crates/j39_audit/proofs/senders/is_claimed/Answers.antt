use Rattle.std.proofs.Common.{◌≡◌, ℕ, Option, Some, None, eqb, length, refl, sym, ap, ◌∙◌, arith}
use Rattle.std.specs.Option.{option_eq}
use Rattle.j39_audit.specs.Below.{any_below}
use Rattle.j39_audit.specs.Claiming.{is_at, is_claimed_last}
use Rattle.j39_audit.specs.inside.Recalling.{known_by}
use Rattle.j39_audit.proofs.Below.{any_here, any_more, any_none}
use Rattle.j39_audit.proofs.senders.is_claimed.Goals as goal

at_is : (o : Option ℕ) (a : ℕ) → is_at o a ≡ option_eq eqb o (Some a)
at_is None a = refl
at_is (Some b) a = refl

pub loop-unit-init : goal.loop-unit-init
loop-unit-init c = any_none _

pub loop-unit-preserved : goal.loop-unit-preserved
loop-unit-preserved c =
    any_more _ _ c.loop-unit.invariant
    (ap (λ (o : Option ℕ). is_at o c.args.address) (sym c.last.ensures) ∙ at_is c.last.result c.args.address ∙ sym c.eq.ensures ∙ c.if-eq.false)

pub returns-then-eq : goal.returns-then-eq
unfolding is_claimed_last
returns-then-eq c =
    let count = c.len-unit-end.ensures in
    let test = c.loop-unit-test.true in
    sym (any_here _ c.loop-unit.unit _
    (ap (λ (o : Option ℕ). is_at o c.args.address) (sym c.last.ensures) ∙ at_is c.last.result c.args.address ∙ sym c.eq.ensures ∙ c.if-eq.true)
    (omega (arith, count, test)))

pub returns : goal.returns
unfolding is_claimed_last
returns c =
    let count = c.len-unit-end.ensures in
    let test = c.loop-unit-test.false in
    let end : c.loop-unit.unit ≡ length c.args.basis.now.plan.now.units.items = omega (arith, count, test) in
    sym (ap (any_below (λ u. is_at ((known_by c.args.known.now).last u) c.args.address)) (sym end) ∙ c.loop-unit.invariant)
