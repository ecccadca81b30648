use Rattle.std.proofs.Common.{◌≡◌, ◌∙◌, sym, ap, arith}
use Rattle.j39_audit.specs.Below.{any_below}
use Rattle.j39_audit.specs.Claiming.{gives_way, is_lost_to_another}
use Rattle.j39_audit.specs.inside.Recalling.{known_by, settings_of}
use Rattle.j39_audit.proofs.Below.{any_here, any_more, any_none}
use Rattle.j39_audit.proofs.senders.gives_way.Goals as goal

pub loop-address-init : goal.loop-address-init
loop-address-init c = any_none _

pub loop-address-preserved : goal.loop-address-preserved
loop-address-preserved c = any_more _ _ c.loop-address.invariant (sym c.is_lost.ensures ∙ c.if-is_lost.false)

pub returns-then-is_lost : goal.returns-then-is_lost
unfolding gives_way
returns-then-is_lost c =
    let test = c.loop-address-test.true in
    sym (any_here _ c.loop-address.address _ (sym c.is_lost.ensures ∙ c.if-is_lost.true) (omega (arith, test)))

pub returns : goal.returns
unfolding gives_way
returns c =
    let test = c.loop-address-test.false in
    let end : c.loop-address.address ≡ 254 = omega (arith, test) in
    sym (ap (any_below (is_lost_to_another (settings_of c.args.basis.now) (known_by c.args.known.now) c.args.unit c.args.name))
    (sym end) ∙ c.loop-address.invariant)
