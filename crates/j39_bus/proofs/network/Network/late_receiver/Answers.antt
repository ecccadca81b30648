use Rattle.std.proofs.Common.{ap, ◌∙◌}
use Rattle.j39_network.specs.declared.steps.Step.TheVariants.{LateReceiver}
use Rattle.j39_bus.specs.inside.Network.{world_in}
use Rattle.j39_world.specs.TransferSteps.{receiver_timed_out}
use Rattle.j39_bus.proofs.Steady.{plan_kept, plan_same, steps_after}
use Rattle.j39_bus.proofs.network.Network.late_receiver.Goals as goal

pub returns-clause-steps : goal.returns-clause-steps
returns-clause-steps c = record {
  of_plan = λ plan of.
      let net = c.args.self.now in
      let mid = c.reserve_replies.new.self in
      let of_mid = plan_kept net mid plan (plan_same net mid c.reserve_replies.ensures.same) of in
      steps_after net mid c.reserve_replies.ensures.same plan (LateReceiver c.args.from c.args.to) c.ask_again.new.self
      (λ h held. (
        h,
        c.ask_again.ensures.world h ∙ ap (λ ws. receiver_timed_out ws (world_in h mid) c.args.from c.args.to) of_mid.windows,
        c.ask_again.ensures.held h held,
      ));
}
