-- A bus can keep to a plan in the plan's own words on which messages of one frame of a flow are sent that has long ones too, one behind the other.
use Rattle.std.proofs.Common.{◌≡◌, ℕ, ◌+◌, ◌*◌, ◌<◌, ◌≤◌, Some}
use Rattle.std.proofs.Common.{refl, arith}
use Rattle.std.specs.List.{slice_get}
use Rattle.j39_id.specs.Ident.{identifier_of}
use Rattle.j39_network.specs.PlannedUnits.{units_of}
use Rattle.j39_network.specs.declared.plan.Plan.{Plan}
use Rattle.j39_network.specs.declared.plan.flow_plan.FlowPlan.{FlowPlan}
use Rattle.j39_network.specs.declared.plan.group_plan.GroupPlan.{GroupPlan}
use Rattle.j39_network.specs.declared.plan.pace.Pace.{Pace}
use Rattle.j39_network.specs.declared.plan.timing.Timing.{Timing}
use Rattle.j39_load.specs.KeepsPlan.{CanBeKept}
use Rattle.j39_load.specs.SentFrames.{First, Held, IsFirstFrame, goes_to}
use Rattle.j39_load.proofs.KeepingPlanned.{IsAskedSeldom, planned_address, planned_held, planned_receiver, planned_sender, room_for, source_can_be_kept}
use Rattle.j39_load.proofs.Milliseconds.{at_once}
use Rattle.j39_load.proofs.Slots.{slots, slots_legal}
use Rattle.j39_timing.specs.TimedFrames.{Schedule}
use Rattle.j39_world.specs.HeldAddresses.{ArePlannedApart}

module _ (plan : Plan) (timing : Timing) (apart : ArePlannedApart (units_of plan)) (f : ℕ) (flow : FlowPlan) (pace : Pace) (group : GroupPlan)
    (its : slice_get plan.flows.items f ≡ Some flow) (paced : flow.pace ≡ Some pace) (of : slice_get plan.groups.items flow.group ≡ Some group)
    (short : group.length ≤ 8) (long : 8 < group.most) (few : IsAskedSeldom plan flow) (n : ℕ) where
  abbrev address : ℕ → ℕ
  address = planned_address plan apart

  abbrev held : Held
  held = planned_held plan apart

  -- from one frame to the next is a period, also one of a request for it
  abbrev width : ℕ
  width = room_for plan timing flow pace + 80

  abbrev bus : Schedule
  bus = slots width n (λ p. identifier_of group.priority group.pgn (goes_to address flow.to) (address flow.sender))

  frame : (p : ℕ) → IsFirstFrame plan timing bus held f (p * width) p
  frame p = record {
    flow = flow;
    its = its;
    pace = pace;
    paced = paced;
    group = group;
    of = of;
    short = short;
    long = long;
    length = omega arith;
    release_first = omega arith;
    jitter_at_most = at_once timing pace.jitter (p * width);
    sender_named = λ t queued. planned_sender plan apart f flow its;
    receiver_named = λ t v queued goes. planned_receiver plan apart f flow its v goes;
    identifier = λ t queued. refl;
  }

  pub firsts_can_be_kept : CanBeKept plan timing (First f) n
  firsts_can_be_kept = source_can_be_kept plan timing apart f flow pace its paced few (First f) width (omega arith) (λ ms every. every) (λ g is. is)
      ((λ u m same. cc), (λ u m k same. cc)) bus (λ p in_p. frame p)
      (slots_legal width n (λ p. identifier_of group.priority group.pgn (goes_to address flow.to) (address flow.sender)) (omega arith))
