use Rattle.std.proofs.Common.{◌≡◌, ◌∷◌, [], ◌++◌, false, drop, sym, ap, ◌∙◌}
use Rattle.std.proofs.lemmas.Result.{on_ok_weaker}
use Rattle.j39_bus.specs.Queued.{pair_in}
use Rattle.j39_bus.specs.BusState.{session_at}
use Rattle.j39_bus.specs.inside.Network.{world_in}
use Rattle.j39_world.specs.Transfers.{Reported}
use Rattle.j39_world.specs.TransferSteps.{flow_in}
use Rattle.j39_world.specs.declared.wired.Wired.TheVariants.{Alone, Short}
use Rattle.j39_world.specs.World.{World, changed_pair}
use Rattle.j39_bus.proofs.Steady.{item_taken}
use Rattle.j39_bus.proofs.network.Network.take_item.Goals as goal

pub returns-in-Short-clause-takes : goal.returns-in-Short-clause-takes
returns-in-Short-clause-takes c =
    let net = c.args.self.now in
    let u = c.args.from in
    let item_is : c.args.item.now ≡ Short c.bytes.result.now = c.in-Short.is ∙ ap Short (sym c.bytes.ensures.value) in
    let flow_is = c.flow_of-flow.ensures ∙ ap (λ s. flow_in (session_at s u)) c.as_slice.ensures.value in
    on_ok_weaker c.take_one_frame.result
    (λ world.
    item_taken net c.take_one_frame.new.self u c.args.to (Short c.bytes.result.now)
    (c.requires.oldest ∙ ap (λ x. x ∷ drop 1 (pair_in net.wire.lists u c.args.to)) item_is) c.take_one_frame.ensures.receivers
    (λ h.
    let w : World = world_in h net in
    let one : Reported = record { receiver = c.args.to; sender = u; flow = c.flow_of-flow.result; bytes = c.bytes.result.now; alone = false } in
    world h ∙ (λ i. record w {
      wire = changed_pair w.wire u c.args.to (drop 1 (w.wire u c.args.to));
      reports = w.reports ++ record one { flow = flow_is i } ∷ [];
    })))
    c.take_one_frame.ensures.world

pub returns-in-Alone-clause-takes : goal.returns-in-Alone-clause-takes
returns-in-Alone-clause-takes c =
    let net = c.args.self.now in
    let u = c.args.from in
    let item = Alone c.in-Alone.flow c.bytes-in-Alone.result.now in
    let item_is : c.args.item.now ≡ item = c.in-Alone.is ∙ ap (Alone c.in-Alone.flow) (sym c.bytes-in-Alone.ensures.value) in
    on_ok_weaker c.take_one_frame-in-Alone.result
    (item_taken net c.take_one_frame-in-Alone.new.self u c.args.to item
    (c.requires.oldest ∙ ap (λ x. x ∷ drop 1 (pair_in net.wire.lists u c.args.to)) item_is) c.take_one_frame-in-Alone.ensures.receivers)
    c.take_one_frame-in-Alone.ensures.world
