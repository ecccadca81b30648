use Rattle.std.proofs.Common.{◌≡◌, ℕ, true, ◌&&◌, eqb, List, [], ◌∷◌, ◌++◌, length, ap, sym, ◌∙◌, subst}
use Rattle.std.proofs.lemmas.Bool.{cond-false}
use Rattle.j39_tp.specs.Carried.{Carried}
use Rattle.j39_tp.specs.Gathered.{Gathers}
use Rattle.j39_tp.specs.Receiver.{hears, is_complete, receives}
use Rattle.j39_tp.specs.declared.packet.Packet.{Packet}
use Rattle.j39_bus.specs.inside.Network.{world_in}
use Rattle.j39_bus.specs.inside.Receivers.{receiver_at}
use Rattle.j39_world.specs.World.{changed_pair}
use Rattle.j39_bus.proofs.ChangedReceivers.{changed_here, held_changed, progress_changed}
use Rattle.j39_bus.proofs.ChangedSessions.{after_is, sessions_staged}
use Rattle.j39_bus.proofs.Wires.{as_table}
use Rattle.j39_world.specs.TransferSteps.{outgoing_hears}
use Rattle.j39_world.specs.World.{changed}
use Rattle.j39_bus.specs.BusState.{session_at}
use Rattle.j39_bus.proofs.network.Network.listen.Goals as goal

pub returns-clause-network : goal.returns-clause-network
returns-clause-network c =
    let net = c.args.self.now in
    let n = length net.claimers.items in
    let well = c.requires.network.traffic in
    let old = session_at net.sessions.items in
    record {
      claims = c.requires.network.claims;
      traffic = record {
        flows = well.flows;
        sessions = sessions_staged n net.sessions.items c.hear-reaction.new.sessions.items c.args.to (λ s. (outgoing_hears s c.args.from c.args.packet.now).0)
            (c.hear-reaction.ensures.session ∙ ap (changed old c.args.to) (after_is (old c.args.to) c.args.from c.args.packet.now))
            c.hear-reaction.ensures.count well.sessions;
        table = as_table n net.wire.lists c.pop.new.self.lists well.table c.pop.ensures.table;
        windows = ap length c.hear.ensures.windows ∙ well.windows;
      };
    }

pub returns-clause-world : goal.returns-clause-world
returns-clause-world c = λ h.
    let net = c.args.self.now in
    let u = c.args.from in
    let v = c.args.to in
    let p = c.args.packet.now in
    let r = receiver_at net.receivers v u in
    let receivers_are = progress_changed net.receivers c.hear.new.self v u (receives r p) c.in_ok-heard.ensures.after in
    λ i. record (world_in h net) {
      sessions = c.hear-reaction.ensures.session i;
      wire = c.pop.ensures.lists i;
      receivers = receivers_are i;
      taken = changed_pair h.taken v u (h.taken v u ++ p ∷ []);
    }

pub returns-clause-held : goal.returns-clause-held
returns-clause-held c = λ h held.
    let net = c.args.self.now in
    let u = c.args.from in
    let v = c.args.to in
    let p = c.args.packet.now in
    let r = receiver_at net.receivers v u in
    let after : ℕ → ℕ → List Packet = changed_pair h.taken v u (h.taken v u ++ p ∷ []) in
    held_changed net.receivers c.hear.new.self v u (receives r p) c.in_ok-heard.ensures.after h.taken after
    (λ x s other. cond-false (eqb x v && eqb s u) (h.taken v u ++ p ∷ []) (h.taken x s) other)
    (subst (λ (l : List Packet). Gathers l (receives r p).progress (receives r p).bytes) (sym (changed_here h.taken v u (h.taken v u ++ p ∷ [])))
    (c.receivers_gather_what_they_hear.ensures.hears (h.taken v u) r p c.known_ranges.ensures (held v u))) held

pub returns-clause-complete : goal.returns-clause-complete
returns-clause-complete c = λ h held done.
    let net = c.args.self.now in
    let u = c.args.from in
    let v = c.args.to in
    let p = c.args.packet.now in
    let r = receiver_at net.receivers v u in
    let by_rule : is_complete (hears r.manner r.progress p).1 ≡ true = ap is_complete (sym c.in_ok-heard.ensures.heard) ∙ done in
    let holds = c.receivers_gather_what_they_hear.ensures.completes (h.taken v u) r p (held v u) by_rule in (
      holds.pgn,
      subst (Carried (h.taken v u ++ p ∷ []) (length (h.taken v u)) holds.pgn) (sym (c.in_ok-heard.ensures.message done)) holds.carried,
    )
