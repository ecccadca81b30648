use Rattle.std.proofs.Common.{◌≡◌, ℕ, ◌<◌, true, List, length, map, get_or, ap, sym, ◌∙◌, Some, None, refl, subst}
use Rattle.std.proofs.Math.ListN.{length-set}
use Rattle.j39_claim.specs.ClaimerValue.{ClaimerValue, can_note}
use Rattle.j39_bus.specs.Queued.{pair_in}
use Rattle.j39_world.specs.Sent.{sent_of}
use Rattle.j39_bus.specs.Stations.{absent_unit, station_at}
use Rattle.j39_bus.specs.inside.Network.{world_in, planned_units, has_unit_named, IsWellFormed}
use Rattle.j39_bus.proofs.Delivered.{delivered, planned_units_heard}
use Rattle.j39_bus.proofs.Room.{can_note_all, named}
use Rattle.j39_bus.specs.declared.network.Network.{Network}
use Rattle.j39_bus.specs.inside.KeptMessages.{IsTraffic}
use Rattle.j39_bus.proofs.Steady.{stated_traffic}
use Rattle.j39_bus.proofs.WellFormed.{well_stated, well_heard}
use Rattle.j39_bus.proofs.Worlds.{any_default, world, stated_nothing}
use Rattle.j39_bus.proofs.network.Network.deliver.Goals as goal

name_at : (cs : List ClaimerValue) (u : ℕ) (d : ClaimerValue) (n : ℕ) → u < length cs → d ≡ get_or cs u d → n ≡ d.planned.name
    → n ≡ (get_or cs u absent_unit).planned.name
name_at cs u d n inside at is = is ∙ ap (λ (k : ClaimerValue). k.planned.name) (at ∙ any_default cs u d absent_unit inside)

pub hear-answer-requires-clause-room : goal.hear-answer-requires-clause-room
hear-answer-requires-clause-room g c =
    let named_is = name_at c.args.self.now.claimers.items c.args.from c.index.result.now c.name-name.result c.requires.from c.index.ensures
    c.name-name.ensures in
    let cs : List ClaimerValue = c.args.self.now.claimers.items in
    ap (can_note (station_at cs c.args.to).notes) named_is
    ∙ can_note_all cs c.args.self.now.claims.lists c.args.from c.args.to c.requires.network.claims c.requires.from

pub returns-in-Some-answer-clause-network : goal.returns-in-Some-answer-clause-network
returns-in-Some-answer-clause-network g c =
    let named_is = name_at c.args.self.now.claimers.items c.args.from c.index.result.now c.name-name.result c.requires.from c.index.ensures
    c.name-name.ensures in
    let cs : List ClaimerValue = c.args.self.now.claimers.items in
    let new : List ClaimerValue = c.hear-answer.new.claimers.items in
    let rule = c.in-Some-answer.ensures.rule in
    let is_one : has_unit_named cs c.name-name.result ≡ true = ap (has_unit_named cs) named_is ∙ named cs c.args.from c.requires.from in
    let well : IsWellFormed new c.pop.new.self.lists =
    well_heard cs c.args.self.now.claims.lists c.requires.network.claims c.args.to c.requires.to c.name-name.result is_one c.in-Some.item
    (Some c.in-Some-answer.say) new rule c.pop.new.self.lists c.pop.ensures.table in
    record {
      claims = well_stated new c.pop.new.self.lists well c.send_to_others.new.self.claimers.items c.send_to_others.new.self.claims.lists
          (ap (λ v. v.items) c.send_to_others.ensures.claimers) c.send_to_others.ensures.table;
      traffic = stated_traffic c.send_to_others.new.self (record c.args.self.now
          { claimers = c.hear-answer.new.claimers; claims = c.pop.new.self }) c.send_to_others.ensures.rest
          (length cs)
          (ap length (ap (λ v. v.items) c.send_to_others.ensures.claimers) ∙ ap length rule.1
          ∙ length-set cs c.args.to (record (get_or cs c.args.to absent_unit) { state = rule.0 }))
          c.requires.network.traffic;
    }

pub returns-in-Some-answer-clause-plan : goal.returns-in-Some-answer-clause-plan
returns-in-Some-answer-clause-plan g c = record {
  planned_units =
      ap (λ v. planned_units v.items) c.send_to_others.ensures.claimers
      ∙ planned_units_heard c.args.self.now.claimers.items c.args.to c.name-name.result c.in-Some.item
      (Some c.in-Some-answer.say) c.hear-answer.new.claimers.items c.in-Some-answer.ensures.rule;
  live = ap (λ (m : Network). m.live) c.send_to_others.ensures.rest;
  flows = ap (λ (m : Network). m.flows.items) c.send_to_others.ensures.rest;
  windows = ap (λ (m : Network). m.receivers.windows) c.send_to_others.ensures.rest;
}

pub returns-in-Some-answer-clause-world : goal.returns-in-Some-answer-clause-world
returns-in-Some-answer-clause-world g c = λ h.
    let named_is = name_at c.args.self.now.claimers.items c.args.from c.index.result.now c.name-name.result c.requires.from c.index.ensures
    c.name-name.ensures in
    let cs : List ClaimerValue = c.args.self.now.claimers.items in
    delivered (world_in h c.args.self.now) cs (pair_in c.args.self.now.claims.lists) (pair_in c.pop.new.self.lists)
    (map sent_of c.args.self.now.frames.items) c.args.from c.args.to c.requires.to
    c.in-Some.item c.in-Some.ensures.some c.pop.ensures.lists c.name-name.result named_is
    (Some c.in-Some-answer.say) c.hear-answer.new.claimers.items c.in-Some-answer.ensures.rule
    _ (c.send_to_others.ensures.world h)

pub returns-in-None-clause-network : goal.returns-in-None-clause-network
returns-in-None-clause-network g c =
    let named_is = name_at c.args.self.now.claimers.items c.args.from c.index.result.now c.name-name.result c.requires.from c.index.ensures
    c.name-name.ensures in
    let net = c.args.self.now in
    let cs : List ClaimerValue = c.args.self.now.claimers.items in
    let is_one : has_unit_named cs c.name-name.result ≡ true = ap (has_unit_named cs) named_is ∙ named cs c.args.from c.requires.from in
    record {
      claims = well_heard cs c.args.self.now.claims.lists c.requires.network.claims c.args.to c.requires.to c.name-name.result is_one c.in-Some.item None
          c.hear-answer.new.claimers.items c.in-None.ensures.rule
          c.pop.new.self.lists c.pop.ensures.table;
      traffic = subst (λ (n : ℕ). IsTraffic n net.flows.items net.sessions.items net.wire.lists net.receivers)
          (sym (ap length c.in-None.ensures.rule.1 ∙ length-set cs c.args.to (record (get_or cs c.args.to absent_unit) { state = c.in-None.ensures.rule.0 })))
          c.requires.network.traffic;
    }

pub returns-in-None-clause-plan : goal.returns-in-None-clause-plan
returns-in-None-clause-plan g c = record {
  planned_units = planned_units_heard c.args.self.now.claimers.items c.args.to c.name-name.result c.in-Some.item None c.hear-answer.new.claimers.items
      c.in-None.ensures.rule;
  live = refl;
  flows = refl;
  windows = refl;
}

pub returns-in-None-clause-world : goal.returns-in-None-clause-world
returns-in-None-clause-world g c = λ h.
    let named_is = name_at c.args.self.now.claimers.items c.args.from c.index.result.now c.name-name.result c.requires.from c.index.ensures
    c.name-name.ensures in
    let cs : List ClaimerValue = c.args.self.now.claimers.items in
    delivered (world_in h c.args.self.now) cs (pair_in c.args.self.now.claims.lists) (pair_in c.pop.new.self.lists)
    (map sent_of c.args.self.now.frames.items) c.args.from c.args.to c.requires.to
    c.in-Some.item c.in-Some.ensures.some c.pop.ensures.lists c.name-name.result named_is
    None c.hear-answer.new.claimers.items c.in-None.ensures.rule
    _ (sym (stated_nothing (planned_units c.hear-answer.new.claimers.items)
    (world (world_in h c.args.self.now) c.hear-answer.new.claimers.items (pair_in c.pop.new.self.lists) (map sent_of c.args.self.now.frames.items))
    c.args.to))
