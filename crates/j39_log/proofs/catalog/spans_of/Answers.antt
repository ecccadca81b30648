use Rattle.std.proofs.Common.{◌≡◌, ◌+◌, ◌++◌, ◌∷◌, [], List, take, sym, ap, subst, ◌∙◌, arith}
use Rattle.std.proofs.lemmas.List.{length-take-le, take_all, take_more}
use Rattle.j39_network.specs.declared.plan.group_plan.GroupPlan.{GroupPlan}
use Rattle.j39_log.specs.inside.Catalogs.{IsIndex}
use Rattle.j39_log.proofs.catalog.spans_of.Goals as goal

pub loop-place-preserved : goal.loop-place-preserved
loop-place-preserved c =
    let groups : List GroupPlan = c.args.groups.now in
    let i = c.loop-place.place in
    let group : GroupPlan = c.index-groups-place.result in
    let more : take (i + 1) groups ≡ take i groups ++ group ∷ [] =
    take_more groups i group c.loop-place-test.true ∙ ap (λ (g : GroupPlan). take i groups ++ g ∷ []) (sym c.index-groups-place.is) in
    subst (λ (gs : List GroupPlan). IsIndex gs c.add_place.new.spans) (sym more)
    (c.in_ok-add_place.ensures (take i groups) (length-take-le i groups (omega arith)) c.loop-place.invariant)

pub returns-clause-index : goal.returns-clause-index
returns-clause-index c =
    subst (λ (gs : List GroupPlan). IsIndex gs c.loop-place.spans) (take_all c.loop-place.place c.args.groups.now c.loop-place-test.false)
    c.loop-place.invariant
