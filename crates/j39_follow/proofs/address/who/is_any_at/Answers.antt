use Rattle.std.proofs.Common.{Option, false, length, refl, sym, ap, arith}
use Rattle.std.specs.Option.{option_map_or}
use Rattle.std.proofs.lemmas.Option.{slice_get_past, slice_get_read}
use Rattle.j39_network.specs.declared.plan.unit_plan.UnitPlan.{UnitPlan}
use Rattle.j39_follow.proofs.address.who.is_any_at.Goals as goal

pub returns-then-place-len : goal.returns-then-place-len
returns-then-place-len c =
    let units = c.args.plan.now.units.items in
    let unit : UnitPlan = c.index-unit.result.now in
    let less = c.if-place-len.true in
    let count = c.len.ensures in
    sym (ap (λ (o : Option UnitPlan). option_map_or (λ (u : UnitPlan). u.any_identity) o false)
    (slice_get_read units (length units) c.args.place unit refl (omega (arith, less, count)) c.index-unit.ensures))

pub returns-else-place-len : goal.returns-else-place-len
returns-else-place-len c =
    let past = c.if-place-len.false in
    let count = c.len.ensures in
    sym (ap (λ (o : Option UnitPlan). option_map_or (λ (u : UnitPlan). u.any_identity) o false)
    (slice_get_past c.args.plan.now.units.items c.args.place (omega (arith, past, count))))
