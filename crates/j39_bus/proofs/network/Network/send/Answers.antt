use Rattle.std.proofs.Common.{length, refl, ap, ◌∙◌, arith}
use Rattle.j39_network.specs.declared.steps.Step.TheVariants.{Send}
use Rattle.j39_bus.specs.inside.Network.{has_sent, world_in}
use Rattle.j39_world.specs.TransferSteps.{SendsAt, sends_alone}
use Rattle.j39_bus.proofs.FlowRefused.{is_short_enough}
use Rattle.j39_bus.proofs.Steady.{steps_by_flow}
use Rattle.j39_bus.proofs.network.Network.send.Goals as goal

pub send_frame-requires-clause-bytes : goal.send_frame-requires-clause-bytes
send_frame-requires-clause-bytes c =
    let fits = is_short_enough c.args.self.now c.requires.network c.args.place c.requires.allowed.finds c.args.bytes.now.items c.requires.allowed.refusal.is in
    omega (arith, fits, ap length c.as_slice.ensures.value)

pub returns-clause-steps : goal.returns-clause-steps
returns-clause-steps c =
    steps_by_flow c.args.self.now c.prepare.new.self c.prepare.ensures.same c.args.place c.in_ok-flow.flow c.in_ok-flow.ensures.flow
    (Send c.args.place c.args.bytes.now) (λ n w o. SendsAt n w c.args.place o c.args.bytes.now.items) (λ plan w x goes. goes)
    c.send_frame.new.self (λ h. has_sent h c.args.place c.in_ok-flow.flow c.as_slice-2.result.now c.as_slice.result.now) (λ h. refl)
    (λ h. c.send_frame.ensures.world h ∙ ap (sends_alone (length c.prepare.new.self.claimers.items)
    (world_in h c.prepare.new.self) c.args.place c.in_ok-flow.flow) c.as_slice.ensures.value)
    c.send_frame.ensures.receivers
