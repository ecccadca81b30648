use Rattle.std.proofs.Common.{refl}
use Rattle.j39_network.specs.declared.steps.Step.TheVariants.{Lose}
use Rattle.j39_bus.proofs.Lost.{lost_from}
use Rattle.j39_bus.proofs.Steady.{steps_same}
use Rattle.j39_bus.proofs.network.Network.lose.Goals as goal

pub returns-clause-steps : goal.returns-clause-steps
returns-clause-steps c = record {
  of_plan = λ plan planned.
      steps_same plan c.args.self.now (Lose c.args.from c.args.to) (record c.args.self.now { wire = c.pop.new.self })
      (λ h. lost_from c.args.self.now c.args.from c.args.to h
      c.requires.allowed.finds.1 c.pop.new.self c.pop.ensures.lists)
      refl;
}
