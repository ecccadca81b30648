use Rattle.std.proofs.Common.{◌≡◌, sym, ap, ◌∙◌}
use Rattle.std.proofs.lemmas.Option.{get_or_from_slice_get}
use Rattle.std.proofs.lemmas.Bool.{not-false, not-true}
use Rattle.j39_network.specs.declared.plan.unit_plan.UnitPlan.{UnitPlan}
use Rattle.j39_follow.proofs.address.who.may_hold.Goals as goal

pub returns-then-number-address-clause-not : goal.returns-then-number-address-clause-not
returns-then-number-address-clause-not c = λ no frames unit of at may.
    let same : c.index-unit.result.now ≡ unit =
    c.index-unit.ensures ∙ get_or_from_slice_get c.args.plan.now.units.items c.args.place unit c.index-unit.result.now at in
    c.if-number-address.true (c.number.ensures.value ∙ ap (λ (u : UnitPlan). u.address) same ∙ may.prefers)

pub returns-clause-may : goal.returns-clause-may
returns-clause-may c = λ yes frames unit of at.
    let same : c.index-unit.result.now ≡ unit =
    c.index-unit.ensures ∙ get_or_from_slice_get c.args.plan.now.units.items c.args.place unit c.index-unit.result.now at in
    record {
      prefers = sym (c.number.ensures.value ∙ ap (λ (u : UnitPlan). u.address) same) ∙ c.if-number-address.false;
      unheard = of.unheard c.args.place unit at (sym c.was_heard.ensures ∙ not-true c.was_heard.result yes);
    }

pub returns-clause-not : goal.returns-clause-not
returns-clause-not c = λ no frames unit of at may.
    may.unheard (of.heard c.args.place unit at (sym c.was_heard.ensures ∙ not-false c.was_heard.result no))
