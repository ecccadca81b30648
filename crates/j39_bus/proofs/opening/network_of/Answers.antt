use Rattle.std.proofs.Common.{◌≡◌, List, [], length, map, refl, ap, sym, ◌∙◌, subst, None, replicate}
use Rattle.std.proofs.lemmas.List.{length-map}
use Rattle.j39_claim.specs.ClaimerValue.{ClaimerValue}
use Rattle.j39_network.specs.declared.plan.unit_plan.UnitPlan.{UnitPlan}
use Rattle.j39_bus.specs.Queued.{IsTable}
use Rattle.j39_bus.specs.BusState.{session_at}
use Rattle.j39_bus.specs.Reports.{reported_of}
use Rattle.j39_bus.specs.Stations.{station_at, unstarted}
use Rattle.j39_bus.specs.inside.Network.{planned_units}
use Rattle.j39_bus.specs.inside.KeptMessages.{IsTraffic}
use Rattle.j39_world.specs.Sent.{sent_of}
use Rattle.j39_bus.proofs.Opened.{planned_units-unstarted, length_opened, none_sent, sessions_first, station_unstarted, well_opened}
use Rattle.j39_bus.proofs.opening.network_of.Goals as goal

pub returns-clause-network : goal.returns-clause-network
returns-clause-network c =
    let plan = c.args.plan.now in
    let units = plan.units.items in
    let cs = c.in_ok-claimers.claimers.items in
    let value = c.as_slice-units.ensures.value in
    let cs_is : cs ≡ map (unstarted plan.keep_free) units = c.in_ok-claimers.ensures ∙ ap (map (unstarted plan.keep_free)) value in
    let table = subst (λ n. IsTable n c.in_ok-claims.claims.lists) (ap length value) c.in_ok-claims.ensures.table in
    record {
      claims = well_opened plan.keep_free units plan.unit_count cs c.in_ok-claims.claims.lists cs_is table;
      traffic = subst (λ n. IsTraffic n c.in_ok-flows.flows.items c.in_ok-sessions.sessions.items c.in_ok-wire.wire.lists c.in_ok-receivers.receivers)
          (sym (length_opened plan.keep_free units cs cs_is))
          (record {
            flows = c.in_ok-flows.ensures.fit;
            sessions = sessions_first (length units) c.in_ok-sessions.sessions.items (c.in_ok-sessions.ensures ∙ ap (λ n. replicate n None) (ap length value));
            table = subst (λ n. IsTable n c.in_ok-wire.wire.lists) (ap length value) c.in_ok-wire.ensures.table;
            windows = ap length c.in_ok-receivers.ensures.windows ∙ length-map c.as_slice-units.result.now (λ (p : UnitPlan). p.window) ∙ ap length value;
          });
    }

pub returns-clause-planned : goal.returns-clause-planned
returns-clause-planned c =
    let plan = c.args.plan.now in
    let value = c.as_slice-units.ensures.value in
    record {
      units = ap planned_units (c.in_ok-claimers.ensures ∙ ap (map (unstarted plan.keep_free)) value) ∙ planned_units-unstarted plan.keep_free plan.units.items;
      live = refl;
      flows = c.in_ok-flows.ensures.flows;
      windows = c.in_ok-receivers.ensures.windows ∙ ap (map (λ (p : UnitPlan). p.window)) value;
    }

pub returns-clause-world : goal.returns-clause-world
returns-clause-world c =
    let plan = c.args.plan.now in
    let units = c.as_slice-units.result.now in
    λ i. record {
      stations = λ u. (ap (λ (l : List ClaimerValue). station_at l u) c.in_ok-claimers.ensures ∙ station_unstarted plan.keep_free units u) i;
      claims = λ u v. c.in_ok-claims.ensures.empty u v i;
      sessions = λ u. (ap (λ l. session_at l u) c.in_ok-sessions.ensures ∙ none_sent (length units) u) i;
      wire = λ u v. c.in_ok-wire.ensures.empty u v i;
      receivers = λ v u. (c.in_ok-receivers.ensures.closed v u i).progress;
      taken = λ v u. [];
      begun = λ u v. [];
      sent_alone = λ u v. [];
      reports = map reported_of (c.new-4.ensures.items i);
      frames = map sent_of (c.new-5.ensures.items i);
    }
