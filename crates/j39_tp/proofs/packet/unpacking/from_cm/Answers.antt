use Rattle.std.proofs.Common.{sym, ◌∙◌}
use Rattle.j39_tp.proofs.PacketLaws.{only_reading}
use Rattle.j39_tp.proofs.packet.unpacking.from_cm.Goals as goal

pub returns-clause-only : goal.returns-clause-only
returns-clause-only c = λ p r.
    sym c.in_ok-packet.was ∙ only_reading c.args.bytes.now c.managed.result c.managed.ensures.found c.managed.ensures.refused p r

pub returns-in_err-packet-clause-only : goal.returns-in_err-packet-clause-only
returns-in_err-packet-clause-only c = λ p r.
    let read = only_reading c.args.bytes.now c.managed.result c.managed.ensures.found c.managed.ensures.refused p r in
    let was = c.in_err-packet.was in
    absurd (cc (read, was))
