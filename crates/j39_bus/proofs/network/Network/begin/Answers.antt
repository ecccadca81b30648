use Rattle.std.proofs.Common.{length, refl, ap, ◌∙◌, arith}
use Rattle.j39_network.specs.declared.steps.Step.TheVariants.{Begin}
use Rattle.j39_bus.specs.inside.Network.{has_begun, world_in}
use Rattle.j39_world.specs.TransferSteps.{BeginsAt, begins}
use Rattle.j39_bus.proofs.FlowRefused.{is_in_length}
use Rattle.j39_bus.proofs.Steady.{steps_by_flow}
use Rattle.j39_bus.proofs.network.Network.begin.Goals as goal

pub start-requires-clause-bytes : goal.start-requires-clause-bytes
start-requires-clause-bytes c =
    let fits = is_in_length c.args.self.now c.requires.network c.args.place c.requires.allowed.finds c.args.bytes.now.items c.requires.allowed.refusal.is in
    omega (arith, fits, ap length c.as_slice.ensures.value)

pub returns-clause-steps : goal.returns-clause-steps
returns-clause-steps c =
    steps_by_flow c.args.self.now c.prepare.new.self c.prepare.ensures.same c.args.place c.in_ok-flow.flow c.in_ok-flow.ensures.flow
    (Begin c.args.place c.args.bytes.now) (λ n w o. BeginsAt n w c.args.place o c.args.bytes.now.items) (λ plan w x goes. goes)
    c.start.new.self (λ h. has_begun h c.args.place c.in_ok-flow.flow c.in_ok-flow.targets.items c.as_slice.result.now) (λ h. refl)
    (λ h. c.start.ensures.world h ∙ ap (begins (length c.prepare.new.self.claimers.items)
    (world_in h c.prepare.new.self) c.args.place c.in_ok-flow.flow) c.as_slice.ensures.value)
    c.start.ensures.receivers
