use Rattle.std.proofs.Common.{List, length, map, set, refl, sym, ap, subst, ℕ, ◌∙◌, Some, None}
use Rattle.std.proofs.Math.ListN.{length-set}
use Rattle.std.specs.Vec.{with_item}
use Rattle.j39_claim.specs.ClaimerValue.{ClaimerValue}
use Rattle.j39_world.specs.Sent.{sent_of}
use Rattle.j39_bus.specs.declared.network.Network.{Network}
use Rattle.j39_bus.proofs.Steady.{stated_traffic, wired_traffic}
use Rattle.j39_bus.proofs.WellFormed.{well_on, well_stated}
use Rattle.j39_bus.proofs.SwitchedOn.{planned_units_on, on_planned_unit, switched}
use Rattle.j39_bus.specs.Queued.{pair_in}
use Rattle.j39_bus.specs.inside.Network.{planned_units, world_in}
use Rattle.j39_bus.specs.inside.KeptMessages.{IsTraffic}
use Rattle.j39_bus.proofs.Worlds.{stated_nothing, world}
use Rattle.j39_bus.proofs.network.Network.switch_on.Goals as goal

pub returns-in-Some-clause-network : goal.returns-in-Some-clause-network
returns-in-Some-clause-network c =
    let cs : List ClaimerValue = c.args.self.now.claimers.items in
    let new : ClaimerValue = c.start-first.new.self in
    let same = on_planned_unit cs c.args.unit c.requires.place c.index_mut.result.now new c.index_mut.ensures.value c.start-first.ensures.started in
    let well = well_on cs c.args.self.now.claims.lists c.requires.network.claims c.args.unit c.requires.place new same
    (ap (λ (k : ClaimerValue). k.state.notes) c.start-first.ensures.started)
    c.clear_to.new.self.lists c.clear_to.ensures.table in
    record {
      claims = well_stated
          (set cs c.args.unit new) c.clear_to.new.self.lists well c.send_to_others.new.self.claimers.items c.send_to_others.new.self.claims.lists
          (ap (λ v. v.items) c.send_to_others.ensures.claimers) c.send_to_others.ensures.table;
      traffic = stated_traffic c.send_to_others.new.self
          (record c.args.self.now { claimers = with_item c.args.self.now.claimers c.args.unit new; claims = c.clear_to.new.self; wire = c.clear_to-2.new.self })
          c.send_to_others.ensures.rest (length cs)
          (ap length (ap (λ v. v.items) c.send_to_others.ensures.claimers) ∙ length-set cs c.args.unit new)
          (wired_traffic _ _ _ _ _ _ c.requires.network.traffic c.clear_to-2.ensures.table);
    }

pub returns-in-Some-clause-plan : goal.returns-in-Some-clause-plan
returns-in-Some-clause-plan c = record {
  planned_units =
      let cs : List ClaimerValue = c.args.self.now.claimers.items in
      ap (λ v. map (λ (k : ClaimerValue). k.planned) v.items) c.send_to_others.ensures.claimers
      ∙ planned_units_on cs c.args.unit c.requires.place c.index_mut.result.now c.start-first.new.self c.index_mut.ensures.value c.start-first.ensures.started;
  live = ap (λ (m : Network). m.live) c.send_to_others.ensures.rest;
  flows = ap (λ (m : Network). m.flows.items) c.send_to_others.ensures.rest;
  windows = ap (λ (m : Network). m.receivers.windows) c.send_to_others.ensures.rest;
}

pub returns-in-Some-clause-world : goal.returns-in-Some-clause-world
returns-in-Some-clause-world c = λ h.
    switched c.args.self.now.claimers.items c.args.unit c.requires.place c.index_mut.result.now c.start-first.new.self c.index_mut.ensures.value
    c.start-first.ensures.started
    (world_in h c.args.self.now) (pair_in c.args.self.now.claims.lists) (pair_in c.clear_to.new.self.lists)
    (map sent_of c.args.self.now.frames.items) c.clear_to.ensures.lists
    (pair_in c.clear_to-2.new.self.lists) c.clear_to-2.ensures.lists
    (Some c.in-Some.say) c.in-Some.ensures.said _ (c.send_to_others.ensures.world h)

pub returns-in-None-clause-network : goal.returns-in-None-clause-network
returns-in-None-clause-network c =
    let cs : List ClaimerValue = c.args.self.now.claimers.items in
    let net = c.args.self.now in
    let new : ClaimerValue = c.start-first.new.self in
    let same = on_planned_unit cs c.args.unit c.requires.place c.index_mut.result.now new c.index_mut.ensures.value c.start-first.ensures.started in
    record {
      claims = well_on cs net.claims.lists c.requires.network.claims c.args.unit c.requires.place new same
          (ap (λ (k : ClaimerValue). k.state.notes) c.start-first.ensures.started)
          c.clear_to.new.self.lists c.clear_to.ensures.table;
      traffic = subst (λ (n : ℕ). IsTraffic n net.flows.items net.sessions.items c.clear_to-2.new.self.lists net.receivers)
          (sym (length-set cs c.args.unit new))
          (wired_traffic _ _ _ _ _ _ c.requires.network.traffic c.clear_to-2.ensures.table);
    }

pub returns-in-None-clause-plan : goal.returns-in-None-clause-plan
returns-in-None-clause-plan c = record {
  planned_units =
      let cs : List ClaimerValue = c.args.self.now.claimers.items in
      planned_units_on cs c.args.unit c.requires.place c.index_mut.result.now c.start-first.new.self c.index_mut.ensures.value c.start-first.ensures.started;
  live = refl;
  flows = refl;
  windows = refl;
}

pub returns-in-None-clause-world : goal.returns-in-None-clause-world
returns-in-None-clause-world c = λ h.
    let cs : List ClaimerValue = c.args.self.now.claimers.items in
    let new : List ClaimerValue = set cs c.args.unit c.start-first.new.self in
    let fs = map sent_of c.args.self.now.frames.items in
    switched cs c.args.unit c.requires.place c.index_mut.result.now c.start-first.new.self c.index_mut.ensures.value
    c.start-first.ensures.started
    (world_in h c.args.self.now) (pair_in c.args.self.now.claims.lists) (pair_in c.clear_to.new.self.lists)
    fs c.clear_to.ensures.lists
    (pair_in c.clear_to-2.new.self.lists) c.clear_to-2.ensures.lists
    None c.in-None.ensures.said _
    (sym (stated_nothing (planned_units new)
    (record (world (world_in h c.args.self.now) new (pair_in c.clear_to.new.self.lists) fs) { wire = pair_in c.clear_to-2.new.self.lists }) c.args.unit))
