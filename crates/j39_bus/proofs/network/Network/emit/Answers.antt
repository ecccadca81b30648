use Rattle.std.proofs.Common.{sym, subst}
use Rattle.j39_network.specs.declared.steps.Step.TheVariants.{Emit}
use Rattle.j39_bus.specs.Stands.{HoldTaken}
use Rattle.j39_bus.proofs.Steady.{steps_after}
use Rattle.j39_bus.proofs.network.Network.emit.Goals as goal

pub returns-clause-steps : goal.returns-clause-steps
returns-clause-steps c = record {
  of_plan = λ plan planned.
      let mid = c.reserve_along.new.self in
      steps_after c.args.self.now mid c.reserve_along.ensures.same plan (Emit c.args.unit) c.send_next.new.self
      (λ h held. (h, c.send_next.ensures.world h, subst (HoldTaken h.taken) (sym c.send_next.ensures.receivers) held));
}
