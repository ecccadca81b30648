use Rattle.std.proofs.Common.{◌∙◌}
use Rattle.j39_tp.proofs.LastPackets.{last_is}
use Rattle.j39_tp.proofs.Holding.{second_holds}
use Rattle.j39_tp.proofs.receiving.receiver.Receiver.completes.Goals as goal

pub returns : goal.returns
returns c =
    let s = c.self.inside in
    rw (← c.self.view_is)
    (c.last_size.ensures ∙ last_is s.manner s.progress c.args.packet.now s.bytes.items (second_holds _ _ c.self.invariant) c.known_ranges.ensures)
