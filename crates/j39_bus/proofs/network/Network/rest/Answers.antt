use Rattle.std.proofs.Common.{◌<◌, None, length, set, arith}
use Rattle.std.proofs.Math.ListN.{length-set}
use Rattle.j39_bus.proofs.ChangedSessions.{none_some, session_set, sessions_changed}
use Rattle.j39_bus.specs.inside.Network.{world_in}
use Rattle.j39_bus.proofs.network.Network.rest.Goals as goal

pub returns-clause-network : goal.returns-clause-network
returns-clause-network c =
    let net = c.args.self.now in
    let well = c.requires.network.traffic in
    let list = net.sessions.items in
    let inside : c.args.unit < length net.claimers.items = c.requires.allowed.finds in
    let unit : c.args.unit < length list = omega (arith, inside, well.sessions.count) in
    record {
      claims = c.requires.network.claims;
      traffic = record {
        flows = well.flows;
        sessions = sessions_changed (length net.claimers.items) list (set list c.args.unit None) c.args.unit None (session_set list c.args.unit None unit)
            (λ s is. absurd (none_some s is)) (length-set list c.args.unit None) well.sessions;
        table = well.table;
        windows = well.windows;
      };
    }

pub returns-clause-steps : goal.returns-clause-steps
returns-clause-steps c = record {
  of_plan = λ plan planned h held.
      let net = c.args.self.now in
      let inside : c.args.unit < length net.claimers.items = c.requires.allowed.finds in
      let unit : c.args.unit < length net.sessions.items = omega (arith, inside, c.requires.network.traffic.sessions.count) in
      (h, (λ i. record (world_in h net) { sessions = session_set net.sessions.items c.args.unit None unit i }), held);
}
