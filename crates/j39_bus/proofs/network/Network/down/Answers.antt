use Rattle.std.proofs.Common.{◌<◌, List, length, map, refl, sym, ap, ◌∙◌, subst}
use Rattle.std.proofs.Math.ListN.{length-set}
use Rattle.j39_claim.specs.ClaimerValue.{ClaimerValue}
use Rattle.j39_bus.specs.Queued.{pair_in}
use Rattle.j39_bus.specs.inside.Network.{world_in}
use Rattle.j39_bus.specs.inside.KeptMessages.{IsTraffic}
use Rattle.j39_world.specs.Sent.{sent_of}
use Rattle.j39_bus.proofs.SwitchedOff.{held_gone, off_planned_unit, planned_units_off, receivers_gone, sessions_left_out, switched_off_world}
use Rattle.j39_bus.proofs.WellFormed.{well_on}
use Rattle.j39_bus.proofs.Wires.{as_table}
use Rattle.j39_bus.proofs.network.Network.down.Goals as goal

pub returns-clause-network : goal.returns-clause-network
returns-clause-network c =
    let net = c.args.self.now in
    let cs : List ClaimerValue = net.claimers.items in
    let inside : c.args.unit < length cs = c.requires.allowed.finds in
    let well = c.requires.network.traffic in
    let same = off_planned_unit cs c.args.unit inside c.index_mut.result.now c.stop.new.self c.index_mut.ensures.value c.stop.ensures in
    record {
      claims = well_on cs net.claims.lists c.requires.network.claims c.args.unit inside c.stop.new.self same
          (ap (λ (k : ClaimerValue). k.state.notes) c.stop.ensures)
          c.clear_to.new.self.lists c.clear_to.ensures.table;
      traffic = subst (λ n. IsTraffic n net.flows.items c.switch_off.new.sessions.items c.clear_of.new.self.lists c.switch_off-2.new.self)
          (sym (length-set cs c.args.unit c.stop.new.self))
          (record {
            flows = well.flows;
            sessions = sessions_left_out (length cs) c.args.unit net.sessions.items c.switch_off.new.sessions.items c.switch_off.ensures.sessions
                c.switch_off.ensures.count well.sessions;
            table = as_table (length cs) net.wire.lists c.clear_of.new.self.lists well.table c.clear_of.ensures.table;
            windows = ap length c.switch_off-2.ensures.windows ∙ well.windows;
          });
    }

pub returns-clause-plan : goal.returns-clause-plan
returns-clause-plan c =
    let inside : c.args.unit < length c.args.self.now.claimers.items = c.requires.allowed.finds in
    record {
      planned_units = planned_units_off c.args.self.now.claimers.items c.args.unit inside c.index_mut.result.now c.stop.new.self c.index_mut.ensures.value
          c.stop.ensures;
      live = refl;
      flows = refl;
      windows = c.switch_off-2.ensures.windows;
    }

pub returns-clause-steps : goal.returns-clause-steps
returns-clause-steps c = record {
  of_plan = λ plan of h held.
      let net = c.args.self.now in
      let u = c.args.unit in
      let inside : u < length net.claimers.items = c.requires.allowed.finds in (
        h,
        switched_off_world net.claimers.items u inside c.index_mut.result.now c.stop.new.self c.index_mut.ensures.value c.stop.ensures
            (world_in h net) (pair_in net.claims.lists) (pair_in c.clear_to.new.self.lists) (map sent_of net.frames.items) c.clear_to.ensures.lists
            _ c.switch_off.ensures.sessions
            _ c.clear_of.ensures.lists
            _ (receivers_gone u net.receivers c.switch_off-2.new.self c.switch_off-2.ensures.after),
        held_gone u net.receivers c.switch_off-2.new.self c.switch_off-2.ensures.after h.taken held,
      );
}
