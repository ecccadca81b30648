-- What stays where a step changes other parts of a network.
use Rattle.std.proofs.Common.{◌≡◌, ℕ, List, ◌∷◌, drop, Option, Some, length, map, sym, ap, ◌∙◌, subst}
use Rattle.std.specs.List.{slice_get}
use Rattle.std.proofs.Math.Path.{transport}
use Rattle.j39_network.specs.declared.plan.Plan.{Plan}
use Rattle.j39_network.specs.declared.steps.Step.{Step}
use Rattle.j39_bus.specs.declared.network.Network.{Network}
use Rattle.j39_bus.specs.Queued.{IsTable, pair_in}
use Rattle.j39_world.specs.declared.flow.Flow.{Flow}
use Rattle.j39_world.specs.Transfers.{Outgoing}
use Rattle.j39_world.specs.declared.wired.Wired.{Wired}
use Rattle.j39_bus.proofs.Wires.{as_table}
use Rattle.j39_bus.specs.BusState.{Histories, ReceiverTable, world_of}
use Rattle.j39_bus.specs.Reports.{reported_of}
use Rattle.j39_bus.specs.Stands.{HoldTaken}
use Rattle.j39_bus.specs.inside.Network.{HasHeld, HasStepped, IsOfPlan, IsSameNetwork, KeepsPlan, Steps, TakesOldest, planned_units, bus_state, world_in}
use Rattle.j39_bus.specs.inside.KeptMessages.{IsTraffic}
use Rattle.j39_world.specs.Sent.{sent_of}
use Rattle.j39_world.specs.TransferSteps.{TakenFrom}
use Rattle.j39_world.specs.World.{World}
use Rattle.j39_world.specs.Flows.{flows_of}
use Rattle.j39_world.specs.Run.{StepsTo, count_of}
use Rattle.j39_bus.proofs.Rested.{units_count}

-- a step that changes no receiver and no history
pub steps_same : (plan : Plan) (old : Network) (step : Step) (new : Network) → ((h : Histories) → StepsTo plan (world_in h old) step (world_in h new))
    → new.receivers ≡ old.receivers → HasStepped plan old step new
steps_same plan old step new steps same = λ h held. (h, steps h, subst (HoldTaken h.taken) (sym same) held)

pub plan_kept : (old new : Network) (plan : Plan) → KeepsPlan old new → IsOfPlan plan old → IsOfPlan plan new
plan_kept old new plan keeps of = record {
  units = keeps.planned_units ∙ of.units;
  live = keeps.live ∙ of.live;
  flows = keeps.flows ∙ of.flows;
  windows = keeps.windows ∙ of.windows;
}

-- ---- a network of which nothing that is seen has changed
module _ (old new : Network) (same : IsSameNetwork old new) where
  pub state_is : bus_state new ≡ bus_state old
  state_is = λ i. record {
    units = same.claimers i;
    claims = same.claims i;
    live = same.live i;
    flows = same.flows i;
    sessions = same.sessions i;
    wire = same.wire i;
    receivers = same.receivers i;
    reports = map reported_of (same.reports i);
    frames = map sent_of (same.frames i);
  }

  pub world_same : (h : Histories) → world_in h new ≡ world_in h old
  world_same h = ap (world_of h) state_is

  pub held_same : (h : Histories) → HasHeld h old → HasHeld h new
  held_same h held = subst (HoldTaken h.taken) (sym same.receivers) held

  pub plan_same : KeepsPlan old new
  plan_same = record { planned_units = ap planned_units same.claimers; live = same.live; flows = same.flows; windows = ap (λ r. r.windows) same.receivers }

  pub steps_after : (plan : Plan) (step : Step) (after : Network) → HasStepped plan new step after → HasStepped plan old step after
  steps_after plan step after steps h held =
      let (next, goes, has) = steps h (held_same h held) in
      (next, subst (λ (w : World). StepsTo plan w step (world_in next after)) (world_same h) goes, has)

  -- a step by the flow at a place, of which no receiver hears, and after which the packets that were taken are the same
  pub steps_by_flow : (f : ℕ) (flow : Flow) → slice_get new.flows.items f ≡ Some flow → (step : Step)
      → (goes : ℕ → World → Option Flow → World → Type 0)
      → ((plan : Plan) (w x : World) → goes (count_of plan) w (slice_get (flows_of plan) f) x → StepsTo plan w step x)
      → (after : Network) (next : Histories → Histories) → ((h : Histories) → (next h).taken ≡ h.taken)
      → ((h : Histories) → goes (length new.claimers.items) (world_in h new) (Some flow) (world_in (next h) after))
      → after.receivers ≡ new.receivers → Steps old step after
  steps_by_flow f flow flow_is step goes leads after next taken went stay = record {
    of_plan = λ plan of.
        let planned : IsOfPlan plan new = plan_kept old new plan plan_same of in
        let found : slice_get (flows_of plan) f ≡ Some flow = ap (λ (fs : List Flow). slice_get fs f) (sym planned.flows) ∙ flow_is in
        steps_after plan step after (λ h held. (
          next h,
          leads plan (world_in h new) (world_in (next h) after)
              (transport (λ i. goes (sym (units_count plan new planned) i) (world_in h new) (sym found i) (world_in (next h) after)) (went h)),
          transport (λ i. HoldTaken (sym (taken h) i) (sym stay i)) held,
        ));
  }

-- ---- a frame has been taken

pub item_taken : (old new : Network) (u v : ℕ) (item : Wired) → pair_in old.wire.lists u v ≡ item ∷ drop 1 (pair_in old.wire.lists u v)
    → new.receivers ≡ old.receivers
    → ((h : Histories) → TakenFrom old.receivers.windows (world_in h old) u v (item ∷ drop 1 (pair_in old.wire.lists u v)) (world_in h new))
    → TakesOldest old u v new
item_taken old new u v item oldest stay taken h held = (
  h,
  subst (λ (l : List Wired). TakenFrom old.receivers.windows (world_in h old) u v l (world_in h new)) (sym oldest) (taken h),
  subst (HoldTaken h.taken) (sym stay) held,
)

-- ---- only claims and frames have changed

pub stated_traffic : (new mid : Network) → new ≡ record mid { claims = new.claims; frames = new.frames } → (n : ℕ) → length new.claimers.items ≡ n
    → IsTraffic n mid.flows.items mid.sessions.items mid.wire.lists mid.receivers
    → IsTraffic (length new.claimers.items) new.flows.items new.sessions.items new.wire.lists new.receivers
stated_traffic new mid is n count well = transport
    (λ i. IsTraffic (sym count i) (sym is i).flows.items (sym is i).sessions.items (sym is i).wire.lists (sym is i).receivers) well

-- the wire has as many lists as before
pub wired_traffic : (n : ℕ) (flows : List Flow) (sessions : List (Option Outgoing)) (lists after : List (List (List Wired))) (receivers : ReceiverTable)
    → IsTraffic n flows sessions lists receivers → IsTable (length lists) after → IsTraffic n flows sessions after receivers
wired_traffic n flows sessions lists after receivers well table =
    record { flows = well.flows; sessions = well.sessions; table = as_table n lists after well.table table; windows = well.windows }
