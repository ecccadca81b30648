use Rattle.std.proofs.Common.{sym, subst}
use Rattle.j39_network.specs.declared.steps.Step.TheVariants.{LateSender}
use Rattle.j39_bus.specs.Stands.{HoldTaken}
use Rattle.j39_bus.proofs.Steady.{steps_after}
use Rattle.j39_bus.proofs.network.Network.late_sender.Goals as goal

pub returns-clause-steps : goal.returns-clause-steps
returns-clause-steps c = record {
  of_plan = λ plan planned.
      let mid = c.reserve_along.new.self in
      steps_after c.args.self.now mid c.reserve_along.ensures.same plan (LateSender c.args.unit) c.give_up.new.self
      (λ h held. (h, c.give_up.ensures.world h, subst (HoldTaken h.taken) (sym c.give_up.ensures.receivers) held));
}
