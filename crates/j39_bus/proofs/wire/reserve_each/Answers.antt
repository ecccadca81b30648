use Rattle.std.proofs.Common.{◌<◌, length, ap, arith}
use Rattle.j39_bus.proofs.Wires.{room_for_all, unit_inside}
use Rattle.j39_bus.proofs.wire.reserve_each.Goals as goal

pub reserve-requires-clause-to : goal.reserve-requires-clause-to
reserve-requires-clause-to c =
    let inside : c.loop-target.target-index < length c.args.targets.now = omega arith in
    let below = unit_inside (length c.args.wire.now.lists) c.args.targets.now c.loop-target.target-index c.requires.targets inside in
    omega (arith, below, ap length c.loop-target.invariant.lists)

pub returns-clause-room : goal.returns-clause-room
returns-clause-room c = room_for_all c.loop-target.wire c.args.from c.args.targets.now (λ j inside. c.loop-target.invariant.room j (omega arith))
