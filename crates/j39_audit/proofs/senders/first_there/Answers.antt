use Rattle.std.proofs.Common.{◌≡◌, length, sym, ap, ◌∙◌, arith}
use Rattle.j39_audit.specs.Below.{first_below}
use Rattle.j39_audit.specs.Claiming.{first_there, may_be}
use Rattle.j39_audit.specs.inside.Recalling.{known_by, settings_of}
use Rattle.j39_audit.proofs.Below.{first_here, first_more, first_none}
use Rattle.j39_audit.proofs.senders.first_there.Goals as goal

pub loop-unit-init : goal.loop-unit-init
loop-unit-init c = first_none _

pub loop-unit-preserved : goal.loop-unit-preserved
loop-unit-preserved c = first_more _ _ c.loop-unit.invariant (sym c.may_be.ensures ∙ c.if-may_be.false)

pub returns-then-may_be-clause-first : goal.returns-then-may_be-clause-first
unfolding first_there
returns-then-may_be-clause-first c =
    let count = c.len-unit-end.ensures in
    let test = c.loop-unit-test.true in
    sym (first_here _ _ _ c.loop-unit.invariant (sym c.may_be.ensures ∙ c.if-may_be.true) (omega (arith, count, test)))

pub returns-clause-first : goal.returns-clause-first
unfolding first_there
returns-clause-first c =
    let count = c.len-unit-end.ensures in
    let test = c.loop-unit-test.false in
    let end : c.loop-unit.unit ≡ length c.args.basis.now.plan.now.units.items = omega (arith, count, test) in
    sym (ap (first_below (λ u. may_be (settings_of c.args.basis.now) (known_by c.args.known.now) u c.args.address)) (sym end) ∙ c.loop-unit.invariant)
