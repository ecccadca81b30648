use Rattle.std.proofs.Common.{ap, ◌∙◌}
use Rattle.j39_network.specs.declared.steps.Step.TheVariants.{Ask}
use Rattle.j39_world.specs.ClaimSteps.{asked}
use Rattle.j39_bus.specs.inside.Network.{world_in}
use Rattle.j39_bus.specs.declared.network.Network.{Network}
use Rattle.j39_bus.proofs.Steady.{plan_kept, plan_same, steps_after, steps_same}
use Rattle.j39_bus.proofs.network.Network.ask.Goals as goal

pub returns-clause-steps : goal.returns-clause-steps
returns-clause-steps c = record {
  of_plan = λ plan of.
      let net = c.args.self.now in
      let mid = c.reserve.new.self in
      let of_mid = plan_kept net mid plan (plan_same net mid c.reserve.ensures.same) of in
      steps_after net mid c.reserve.ensures.same plan (Ask c.args.unit) c.request.new.self
      (steps_same plan mid (Ask c.args.unit) c.request.new.self (λ h. c.request.ensures.world h ∙ ap (λ us. asked us (world_in h mid) c.args.unit) of_mid.units)
      (ap (λ (m : Network). m.receivers) c.request.ensures.rest));
}
