use Rattle.std.proofs.Common.{subst, List, ℕ}
use Rattle.std.proofs.lemmas.Result.{on_ok_weaker}
use Rattle.j39_bus.specs.Queued.{pair_in}
use Rattle.j39_bus.specs.inside.Network.{TakesOldest, world_in}
use Rattle.j39_world.specs.TransferSteps.{TakenFrom}
use Rattle.j39_bus.proofs.network.Network.take.Goals as goal

pub returns-clause-steps : goal.returns-clause-steps
returns-clause-steps c =
    let net = c.args.self.now in
    let list = pair_in net.wire.lists c.args.from c.args.to in
    on_ok_weaker {P = TakesOldest net c.args.from c.args.to c.take_item.new.self} c.take_item.result
    (λ takes. record {
      of_plan = λ plan planned h held.
          let (after, taken, has) = takes h held in (
            after,
            subst (λ (ws : List ℕ). TakenFrom ws (world_in h net) c.args.from c.args.to list (world_in after c.take_item.new.self)) planned.windows taken,
            has,
          );
    })
    c.take_item.ensures.takes
