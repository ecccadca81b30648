use Rattle.j39_tp.specs.Sender.{after_timeout, timeout_packet}
use Rattle.j39_bus.specs.inside.Network.{world_in}
use Rattle.j39_bus.proofs.Staged.{staged_room, staged_traffic, staged_world}
use Rattle.j39_bus.proofs.network.Network.give_up.Goals as goal

pub send_along-requires-clause-network : goal.send_along-requires-clause-network
send_along-requires-clause-network c = record {
  claims = c.requires.network.claims;
  traffic = staged_traffic c.args.self.now.sessions.items c.late.new.sessions.items c.args.unit (λ s. after_timeout s.stage) c.late.ensures.session
      _ _ _ _ c.late.ensures.count c.requires.network.traffic;
}

pub send_along-requires-clause-wire : goal.send_along-requires-clause-wire
send_along-requires-clause-wire c =
    staged_room c.args.self.now.sessions.items c.late.new.sessions.items c.args.unit (λ s. after_timeout s.stage) c.late.ensures.session
    c.args.self.now.wire c.requires.wire

pub returns-in-Some-clause-world : goal.returns-in-Some-clause-world
returns-in-Some-clause-world c = λ h.
    staged_world c.args.self.now.sessions.items c.late.new.sessions.items c.args.unit (λ s. after_timeout s.stage) c.late.ensures.session
    (λ s. timeout_packet s.pgn s.stage) c.in-Some.packet c.in-Some.ensures.packet (world_in h c.args.self.now) (world_in h c.send_along.new.self)
    (c.send_along.ensures.world h)
