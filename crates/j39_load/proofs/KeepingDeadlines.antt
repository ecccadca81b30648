-- A bus can keep to a plan in the plan's own words on which a long message to all is sent to its end, its packets as far apart as they have to be.
use Rattle.std.proofs.Common.{◌≡◌, ℕ, zero, suc, ◌+◌, ◌*◌, ◌^◌, ◌<◌, ◌≤◌, Some}
use Rattle.std.proofs.Common.{refl, sym, ap, ◌∙◌, arith}
use Rattle.std.specs.List.{slice_get}
use Rattle.j39_id.specs.Ident.{identifier_of}
use Rattle.j39_network.specs.PlannedUnits.{units_of}
use Rattle.j39_network.specs.declared.plan.Plan.{Plan}
use Rattle.j39_network.specs.declared.plan.flow_plan.FlowPlan.{FlowPlan}
use Rattle.j39_network.specs.declared.plan.group_plan.GroupPlan.{GroupPlan}
use Rattle.j39_network.specs.declared.plan.pace.Pace.{Pace}
use Rattle.j39_network.specs.declared.plan.timing.Timing.{Timing}
use Rattle.j39_network.specs.declared.plan.to.To.TheVariants.{All}
use Rattle.j39_load.specs.KeepsAnswers.{IsOfFlow}
use Rattle.j39_load.specs.KeepsPlan.{KeepsQueues, KeepsToPlan}
use Rattle.j39_load.specs.KeptDeadlines.{AreSentWhole, CanBeSentWhole, TakeTurns, whole_from}
use Rattle.j39_load.specs.Loads.{bits_per_ms}
use Rattle.j39_load.specs.SentFrames.{Asking, Announcing, Broadcasts, Carrying, First, FrameSources, Held, InSession, IsFrameOf, IsSentByUnit, Single}
use Rattle.j39_load.specs.SentFrames.{IsWithinUnitMs, Source}
use Rattle.j39_load.proofs.KeepingOneToAll as one
use Rattle.j39_load.proofs.KeepingOneToAll.{OneToAll}
use Rattle.j39_load.proofs.KeepingPlanned.{IsAskedSeldom, keeps_queues, slots_kept, planned_address, planned_apart, planned_controllers, planned_held}
use Rattle.j39_load.proofs.KeepingPlanned.{planned_sender}
use Rattle.std.proofs.Math.Nat.{mul-le-mul_right}
use Rattle.j39_load.proofs.Milliseconds.{in_unit_ms}
use Rattle.j39_load.proofs.Slots.{slots}
use Rattle.j39_timing.specs.Rounds.{all_planned}
use Rattle.j39_timing.specs.TimedFrames.{Schedule}
use Rattle.j39_world.specs.HeldAddresses.{ArePlannedApart}

-- the announcement, and packets behind it
abbrev source_at : ℕ → ℕ → Source
source_at u zero = Announcing u 0
source_at u (suc k) = Carrying u 0 k

abbrev number_at : ℕ → ℕ
number_at zero = 60416
number_at (suc k) = 60160

-- the slot of a source
abbrev slot_of : Source → ℕ
slot_of (Announcing u m) = 0
slot_of (Carrying u m k) = suc k
slot_of (Single f) = 0
slot_of (First f) = 0
slot_of (InSession f part) = 0
slot_of (Asking r) = 0

-- which is of no flow with messages to one unit, or of one frame
no_other_at : (u p g : ℕ) → IsOfFlow g (source_at u p) → ⊥
no_other_at u zero g is = is
no_other_at u (suc k) g is = is

slot_stated : (u p : ℕ) → slot_of (source_at u p) ≡ p
slot_stated u zero = refl
slot_stated u (suc k) = refl

module _ (plan : Plan) (timing : Timing) (apart : ArePlannedApart (units_of plan)) (f : ℕ) (flow : FlowPlan) (pace : Pace) (group : GroupPlan)
    (its : slice_get plan.flows.items f ≡ Some flow) (paced : flow.pace ≡ Some pace) (of : slice_get plan.groups.items flow.group ≡ Some group)
    (long : 8 < group.most) (goes_to_all : flow.to ≡ All) (more : ℕ) (two : 2 ≤ more) (shortest : group.length ≤ 7 * more)
    (longest : 7 * more < group.most + 7) (few_asked : IsAskedSeldom plan flow) where
  abbrev address : ℕ → ℕ
  address = planned_address plan apart

  abbrev held : Held
  held = planned_held plan apart

  abbrev u : ℕ
  u = flow.sender

  -- from the end of a frame to the next one is a gap
  abbrev width : ℕ
  width = 80 + timing.broadcast_gap * bits_per_ms timing.bitrate

  abbrev ident : ℕ → ℕ
  ident p = identifier_of timing.transport_priority (number_at p) 255 (address u)

  abbrev bus : Schedule
  bus = slots width (suc more) ident

  abbrev it : OneToAll plan timing
  it = record {
    f = f;
    flow = flow;
    pace = pace;
    group = group;
    its = its;
    paced = paced;
    of = of;
    long = long;
    to_all = goes_to_all;
    packets = more;
    two = two;
    shortest = shortest;
    longest = longest;
    width = width;
    wide = omega arith;
    count = suc more;
    ident = ident;
    source = source_at u;
    release = λ p. p * width;
    slot_of = slot_of;
    slot_stated = slot_stated u;
    first = 0;
    announced = λ x m. refl;
    carried = λ x m k. omega arith;
    few = few_asked;
    others_few = λ p g answering is. absurd (no_other_at u p g is);
    one_release = λ p q g answering in_p in_q is_p is_q. absurd (no_other_at u p g is_p);
  }

  abbrev messages : Broadcasts
  messages = one.messages plan timing apart it

  abbrev sent : FrameSources
  sent = one.sent plan timing apart it

  frame : (p : ℕ) → p < suc more → IsFrameOf plan timing bus held messages (source_at u p) (p * width) p
  frame zero below = one.to_each plan timing apart it 0 60416 refl
  frame (suc k) below = (one.to_each plan timing apart it (suc k) 60160 refl, omega (arith, below))

  keeps : KeepsToPlan plan timing bus all_planned sent held
  keeps = one.keeps plan timing apart it frame

  few : (p : ℕ) → ident p < 2 ^ 29
  few p =
      let low = (planned_apart plan apart 0).range u (planned_sender plan apart f flow its) in
      let top = timing.transport_priority_range in
      by_number p low top
    where
      by_number : (p : ℕ) → address u < 255 → timing.transport_priority ≤ 7 → ident p < 2 ^ 29
      by_number zero low top = omega (arith, low, top)
      by_number (suc k) low top = omega (arith, low, top)

  queues : KeepsQueues plan timing bus (planned_controllers plan (λ p. u)) all_planned sent
  queues = keeps_queues plan timing bus sent (λ p. u) sent_by few
    where
      sent_by : (p w : ℕ) → IsSentByUnit plan (source_at u p) w → u ≡ w
      sent_by zero w from = from
      sent_by (suc k) w from = from

  -- ---- to its end

  -- a packet is queued a gap behind the end of the frame before
  gap_behind : (p : ℕ) → IsWithinUnitMs timing timing.broadcast_gap_most (p * width + 80) (suc p * width)
  gap_behind p =
      let more : timing.broadcast_gap * bits_per_ms timing.bitrate ≤ timing.broadcast_gap_most * bits_per_ms timing.bitrate =
      mul-le-mul_right (bits_per_ms timing.bitrate) timing.broadcast_gap_order in
      in_unit_ms timing timing.broadcast_gap_most (p * width + 80) (suc p * width) (omega (arith, more))

  sends : AreSentWhole timing bus all_planned sent
  sends = record {
    announcement = λ x m. 0;
    packet = λ x m k. suc k;
    announces = λ x m below. let (first, is) = one.only_message plan timing apart it x m below in (omega arith, refl, announced_by x m first is);
    carries = λ x m k below inside. let (first, is) = one.only_message plan timing apart it x m below
        in (omega (arith, inside), refl, carried_by x m k first is);
    first_gap = λ x m below. gap_behind 0;
    next_gap = λ x m k below inside. gap_behind (suc k);
  }
    where
      announced_by : (x m : ℕ) → m ≡ 0 → x ≡ u → Announcing u 0 ≡ Announcing x m
      announced_by x m first is = ap (λ (y : ℕ). Announcing y 0) (sym is) ∙ ap (Announcing x) (sym first)

      carried_by : (x m k : ℕ) → m ≡ 0 → x ≡ u → Carrying u 0 k ≡ Carrying x m k
      carried_by x m k first is = ap (λ (y : ℕ). Carrying y 0 k) (sym is) ∙ ap (λ (y : ℕ). Carrying x y k) (sym first)

  takes : TakeTurns messages (whole_from timing bus all_planned sent sends)
  takes = record {
    at_once = λ x m n t before below wanted over. omega arith;
    once = λ x l m n first second below same. absurd (let none = (one.only_message plan timing apart it x n below).0 in omega (arith, second, none));
  }

  pub can_be_sent_whole : CanBeSentWhole plan timing f u more
  can_be_sent_whole = record {
    bus = slots_kept plan timing apart width (suc more) ident (omega arith) sent (λ p. u) keeps queues;
    turns = one.turns plan timing apart it;
    sends = sends;
    takes = takes;
    one = one.one_message plan timing apart it;
    of_flow = refl;
    long = refl;
  }
