use Rattle.std.proofs.Common.{◌≡◌, length, sym, ap, ◌∙◌, arith}
use Rattle.j39_audit.specs.Below.{first_below}
use Rattle.j39_audit.specs.SentMessages.{first_group, is_group}
use Rattle.j39_audit.specs.inside.Recalling.{sent_as, settings_of}
use Rattle.j39_audit.proofs.Below.{first_here, first_more, first_none}
use Rattle.j39_audit.proofs.messages.first_group.Goals as goal

pub loop-place-init : goal.loop-place-init
loop-place-init c = first_none _

pub loop-place-preserved : goal.loop-place-preserved
loop-place-preserved c =
    first_more _ _ c.loop-place.invariant (sym c.is_group.ensures ∙ c.if-is_group.false)

pub returns-then-is_group : goal.returns-then-is_group
unfolding first_group
returns-then-is_group c =
    let count = c.len-place-end.ensures in
    let test = c.loop-place-test.true in
    sym (first_here _ _ _ c.loop-place.invariant (sym c.is_group.ensures ∙ c.if-is_group.true) (omega (arith, count, test)))

pub returns : goal.returns
unfolding first_group
returns c =
    let count = c.len-place-end.ensures in
    let test = c.loop-place-test.false in
    let auto = c.loop-place.auto in
    let end : c.loop-place.place ≡ length c.args.basis.now.plan.now.groups.items = omega (arith, count, test) in
    sym (ap (first_below (is_group (settings_of c.args.basis.now) (sent_as c.args.message.now) c.args.test)) (sym end) ∙ c.loop-place.invariant)
