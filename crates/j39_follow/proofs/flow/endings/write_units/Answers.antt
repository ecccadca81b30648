use Rattle.std.proofs.Common.{◌++◌, ◌∷◌, [], List, ℕ, ◌+◌, sym, subst, ap, ◌∙◌, arith, append_assoc, length, take, ◌≡◌}
use Rattle.std.proofs.lemmas.List.{length-take-le, take_more}
use Rattle.j39_network.specs.declared.plan.unit_plan.UnitPlan.{UnitPlan}
use Rattle.j39_follow.specs.FollowText.{AreUnitLines, IsUnitLine}
use Rattle.j39_follow.proofs.Flows.EndLines.{one_more_unit}
use Rattle.j39_follow.proofs.flow.endings.write_units.Goals as goal

pub loop-place-preserved : goal.loop-place-preserved
loop-place-preserved c = λ frames of.
    let plan = c.args.plan.now in
    let units : List UnitPlan = plan.units.items in
    let k = c.loop-place.place in
    let unit : UnitPlan = c.index.result.now in
    let test = c.loop-place-test.true in
    let count = c.len-place-end.ensures in
    let before = c.loop-place.invariant frames of in
    let taken = length-take-le k units (omega (arith, test, count)) in
    let size : 0 + length (take k units) ≡ k = omega (arith, taken) in
    let one = c.in_ok-write_unit.ensures frames of in
    let more = take_more units k unit (omega (arith, test, count)) ∙ ap (λ (u : UnitPlan). take k units ++ u ∷ []) (sym c.index.ensures) in (
      before.0 ++ one.0,
      subst (λ (us : List UnitPlan). AreUnitLines plan frames 0 us (before.0 ++ one.0)) (sym more)
          (one_more_unit plan frames 0 (take k units) unit before.0 one.0 before.1
          (subst (λ (v : ℕ). IsUnitLine plan frames v unit one.0) (sym size) one.1)),
      one.2 ∙ ap (λ (t : List ℕ). t ++ one.0) before.2 ∙ append_assoc c.args.text.now before.0 one.0,
    )
