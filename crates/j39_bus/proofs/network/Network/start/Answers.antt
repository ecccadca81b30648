use Rattle.std.proofs.Common.{◌≡◌, ◌<◌, length, set, ap, sym, ◌∙◌, subst, arith, Some}
use Rattle.std.proofs.Math.ListN.{length-set}
use Rattle.j39_bus.specs.BusState.{session_at}
use Rattle.j39_bus.specs.Stations.{station_at}
use Rattle.j39_bus.specs.inside.Network.{IsReadyFor, has_begun, world_in}
use Rattle.j39_bus.specs.inside.KeptMessages.{AreUnits, IsSession, item_frame}
use Rattle.j39_bus.specs.declared.network.Network.{Network}
use Rattle.j39_bus.proofs.Begun.{first_framed}
use Rattle.j39_bus.proofs.ChangedSessions.{session_set, sessions_changed, some_is}
use Rattle.j39_bus.proofs.Wires.{targets_units}
use Rattle.j39_world.specs.declared.flow.Flow.{Flow}
use Rattle.j39_world.specs.Transfers.{Begun, Outgoing, added}
use Rattle.j39_world.specs.SentTransfers.{address_of, destination_of}
use Rattle.j39_world.specs.TransferSteps.{outgoing, sent_to}
use Rattle.j39_world.specs.World.{World, changed}
use Rattle.j39_bus.proofs.network.Network.start.Goals as goal

pub send_by-requires-clause-ready : goal.send_by-requires-clause-ready
send_by-requires-clause-ready c =
    let targets = c.targets.ensures ∙ ap (λ (s : Outgoing). s.targets) c.begin-session.ensures.session in
    subst (IsReadyFor c.args.self.now c.args.flow.now) (sym targets) c.requires.ready

pub returns-clause-network : goal.returns-clause-network
returns-clause-network c =
    let net = c.args.self.now in
    let mid : Network = c.send_by.new.self in
    let n = length net.claimers.items in
    let u = c.args.flow.now.sender in
    let list = mid.sessions.items in
    let well = c.send_by.ensures.network.traffic in
    let s : Outgoing = c.begin-session.result.0 in
    let same : n ≡ length mid.claimers.items = sym (ap (λ (m : Network). length m.claimers.items) c.send_by.ensures.rest) in
    let inside : u < length list = omega (arith, well.sessions.count, c.requires.ready.planned.sender, same) in
    let units = targets_units n (station_at net.claimers.items) u c.args.flow.now.to c.requires.ready.planned.receiver in
    let form : IsSession n s = subst (IsSession n) (sym c.begin-session.ensures.session)
    (record { to = c.requires.ready.planned.receiver; targets = subst (AreUnits n) (sym c.requires.ready.reached) units }) in
    record {
      claims = c.send_by.ensures.network.claims;
      traffic = record {
        flows = well.flows;
        sessions = sessions_changed (length mid.claimers.items) list (set list u (Some s)) u (Some s) (session_set list u (Some s) inside)
            (λ x is. subst (λ k. IsSession k x) same (subst (IsSession n) (some_is s x is) form)) (length-set list u (Some s)) well.sessions;
        table = well.table;
        windows = well.windows;
      };
    }

pub returns-clause-receivers : goal.returns-clause-receivers
returns-clause-receivers c = ap (λ (m : Network). m.receivers) c.send_by.ensures.rest

pub returns-clause-world : goal.returns-clause-world
returns-clause-world c = λ h.
    let net = c.args.self.now in
    let mid : Network = c.send_by.new.self in
    let w : World = world_in h net in
    let n = length net.claimers.items in
    let flow : Flow = c.args.flow.now in
    let bytes = c.args.bytes.now in
    let u = flow.sender in
    let s : Outgoing = c.begin-session.result.0 in
    let message : Begun = record { flow = c.args.place; bytes = bytes } in
    let reached = c.requires.ready.reached in
    let out_is : s ≡ outgoing n w.stations c.args.place flow bytes =
    c.begin-session.ensures.session ∙ (λ i. record (outgoing n w.stations c.args.place flow bytes) { targets = reached i }) in
    let same : n ≡ length mid.claimers.items = sym (ap (λ (m : Network). length m.claimers.items) c.send_by.ensures.rest) in
    let inside : u < length mid.sessions.items = omega (arith, c.send_by.ensures.network.traffic.sessions.count, c.requires.ready.planned.sender, same) in
    let sessions_are = session_set mid.sessions.items u (Some s) inside
    ∙ (λ i. changed (session_at (c.send_by.ensures.rest i).sessions.items) u (Some (out_is i))) in
    let targets_are = c.targets.ensures ∙ ap (λ (o : Outgoing). o.targets) out_is in
    let frame_is = ap (item_frame (destination_of w.stations flow.to) (address_of w.stations u) flow) c.begin-session.ensures.item
    ∙ first_framed w.stations flow bytes in
    (λ i. record (c.send_by.ensures.world (has_begun h c.args.place flow c.args.targets.items bytes) i) {
      sessions = session_at (set mid.sessions.items u (Some s));
    })
    ∙ (λ i. record (sent_to w u (targets_are i) (c.begin-session.ensures.item i) (frame_is i)) {
      sessions = sessions_are i;
      begun = added h.begun u (reached i) message;
    })
