use Rattle.std.proofs.Common.{◌≤◌, get_or, sym, arith}
use Rattle.j39_load.specs.Broadcasts.{least_packets}
use Rattle.j39_load.specs.SoundLoads.{IsSoundBroadcast}
use Rattle.j39_load.specs.declared.frames.broadcast.Broadcast.{Broadcast}
use Rattle.j39_load.proofs.Broadcasting.{first_packets, next_least, no_broadcast, no_packets}
use Rattle.j39_load.proofs.loads.broadcasts.least_packets.Goals as goal

pub loop-broadcast-init : goal.loop-broadcast-init
loop-broadcast-init c = record { least = sym no_packets; some = omega arith }

pub loop-broadcast-preserved : goal.loop-broadcast-preserved
loop-broadcast-preserved c =
    let bs = c.args.broadcasts.now in
    let k = c.loop-broadcast.broadcast-index in
    let sound : IsSoundBroadcast (get_or bs k no_broadcast) = c.requires k no_broadcast c.loop-broadcast-test.true in
    let two : 2 ≤ (get_or bs k no_broadcast).least_packets = sound.1 in
    next_least (λ (b : Broadcast). b.least_packets) least_packets no_packets first_packets bs k c.loop-broadcast.least c.min-least.result no_broadcast
    c.loop-broadcast-test.true c.loop-broadcast.invariant c.min-least.ensures (omega (arith, two))
