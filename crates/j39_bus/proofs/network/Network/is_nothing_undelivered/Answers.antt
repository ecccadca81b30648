use Rattle.std.proofs.Common.{length, sym}
use Rattle.j39_bus.proofs.FlowRefused.{settled_by}
use Rattle.j39_bus.proofs.network.Network.is_nothing_undelivered.Goals as goal

pub returns : goal.returns
returns c =
    let net = c.args.self.now in
    sym (settled_by (length net.claimers.items) net.claims.lists c.requires.claims.table c.is_empty.result c.is_empty.ensures)
