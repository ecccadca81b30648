use Rattle.std.proofs.Common.{subst, ap}
use Rattle.j39_network.specs.declared.steps.Step.TheVariants.{Give}
use Rattle.j39_world.specs.ClaimSteps.{GivenFrom}
use Rattle.j39_bus.specs.Queued.{pair_in}
use Rattle.j39_bus.specs.inside.Network.{world_in}
use Rattle.j39_bus.specs.declared.network.Network.{Network}
use Rattle.j39_bus.proofs.Steady.{plan_kept, plan_same, steps_after, steps_same}
use Rattle.j39_bus.proofs.network.Network.give.Goals as goal

pub returns-clause-steps : goal.returns-clause-steps
returns-clause-steps g c = record {
  of_plan = λ plan of.
      let net = c.args.self.now in
      let mid = c.reserve.new.self in
      let of_mid = plan_kept net mid plan (plan_same net mid c.reserve.ensures.same) of in
      steps_after net mid c.reserve.ensures.same plan (Give c.args.from c.args.to) c.deliver.new.self
      (steps_same plan mid (Give c.args.from c.args.to) c.deliver.new.self
      (λ h. subst (λ us. GivenFrom us (world_in h mid) c.args.from c.args.to (pair_in mid.claims.lists c.args.from c.args.to) (world_in h c.deliver.new.self))
      of_mid.units (c.deliver.ensures.world h))
      (ap (λ (m : Network). m.receivers) c.deliver.ensures.rest));
}
