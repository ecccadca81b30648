-- A bus can keep to a plan in the plan's own words in a vehicle that lacks a unit: frames of two flows, one of them to this unit, come one behind
-- the other, and it sends none.
use Rattle.std.proofs.Common.{◌≡◌, ◌≢◌, ℕ, ◌+◌, ◌*◌, ◌^◌, ◌<◌, ◌≤◌, Bool, true, false, cond, Some}
use Rattle.std.proofs.Common.{refl, sym, ap, ◌∙◌, arith}
use Rattle.std.proofs.Math.Nat.{mul-le-mul_right}
use Rattle.std.proofs.lemmas.Option.{same_Some}
use Rattle.std.specs.List.{slice_get}
use Rattle.j39_id.specs.Ident.{identifier_of}
use Rattle.j39_id.specs.Pgn.{IsPgn}
use Rattle.j39_network.specs.PlannedUnits.{units_of}
use Rattle.j39_network.specs.declared.plan.Plan.{Plan}
use Rattle.j39_network.specs.declared.plan.flow_plan.FlowPlan.{FlowPlan}
use Rattle.j39_network.specs.declared.plan.group_plan.GroupPlan.{GroupPlan}
use Rattle.j39_network.specs.declared.plan.pace.Pace.{Pace}
use Rattle.j39_network.specs.declared.plan.timing.Timing.{Timing}
use Rattle.j39_network.specs.declared.plan.to.To.TheVariants.{One}
use Rattle.j39_load.specs.KeepsAnswers.{IsAnswering, IsOfFlow}
use Rattle.j39_load.specs.KeepsBroadcasts.{KeepsBroadcasts}
use Rattle.j39_load.specs.KeepsPlan.{KeepsQueues, KeepsToPlan}
use Rattle.j39_load.specs.KeptWithout.{CanBeKeptWithout}
use Rattle.j39_load.specs.Loads.{bits_per_ms}
use Rattle.j39_load.specs.SentFrames.{Announcing, Carrying, FrameSources, Held, IsFrameOf, IsMsBehind, IsSentByUnit, IsSentEvery}
use Rattle.j39_load.specs.SentFrames.{Single, TakesPart, goes_to}
use Rattle.j39_load.proofs.KeepingApart.{few_ident}
use Rattle.j39_load.proofs.AnswersGiven.{answers_given, first_period}
use Rattle.j39_load.proofs.KeepingPlanned.{IsAskedSeldom, either_behind, places_behind, seldom_at, slots_kept, keeps_all, keeps_queues, no_broadcasts}
use Rattle.j39_load.proofs.KeepingPlanned.{none_sent, period_is, planned_address, planned_controllers}
use Rattle.j39_load.proofs.KeepingPlanned.{planned_held, planned_single}
use Rattle.j39_load.proofs.Milliseconds.{at_once, in_ms_behind}
use Rattle.j39_load.proofs.Slots.{ends_before, slots}
use Rattle.j39_timing.specs.Rounds.{all_planned}
use Rattle.j39_timing.specs.TimedFrames.{Schedule}
use Rattle.j39_world.specs.HeldAddresses.{ArePlannedApart}

module _ (plan : Plan) (timing : Timing) (apart : ArePlannedApart (units_of plan)) (u f : ℕ) (flow : FlowPlan) (pace : Pace) (group : GroupPlan)
    (its : slice_get plan.flows.items f ≡ Some flow) (paced : flow.pace ≡ Some pace) (of : slice_get plan.groups.items flow.group ≡ Some group)
    (short : group.most ≤ 8) (number : IsPgn group.pgn) (to_it : flow.to ≡ One u) (not_by_it : flow.sender ≢ u) (g : ℕ) (other : FlowPlan) (its_pace : Pace)
    (second : GroupPlan) (other_is : slice_get plan.flows.items g ≡ Some other) (other_paced : other.pace ≡ Some its_pace)
    (second_is : slice_get plan.groups.items other.group ≡ Some second) (also_short : second.most ≤ 8) (its_number : IsPgn second.pgn)
    (other_not_by_it : other.sender ≢ u) (seldom : IsAskedSeldom plan flow) (other_seldom : IsAskedSeldom plan other) (first : ℕ → Bool)
    (n : ℕ) where
  abbrev address : ℕ → ℕ
  address = planned_address plan apart

  abbrev held : Held
  held = planned_held plan apart

  -- from one frame to the next both periods pass, and those of the first requests for them
  abbrev asks : ℕ
  asks = first_period plan.requests.items flow + first_period plan.requests.items other

  abbrev both : ℕ
  both = pace.period + its_pace.period + asks

  abbrev width : ℕ
  width = both * bits_per_ms timing.bitrate + 80

  abbrev first_ident : ℕ
  first_ident = identifier_of group.priority group.pgn (goes_to address flow.to) (address flow.sender)

  abbrev other_ident : ℕ
  other_ident = identifier_of second.priority second.pgn (goes_to address other.to) (address other.sender)

  abbrev bus : Schedule
  bus = slots width n (λ p. cond (first p) first_ident other_ident)

  abbrev sent : FrameSources
  sent = record { source = λ p. cond (first p) (Single f) (Single g); release = λ p. p * width; broadcasts = no_broadcasts }

  frame : (p : ℕ) (b : Bool) → bus.ident p ≡ cond b first_ident other_ident
      → IsFrameOf plan timing bus held no_broadcasts (cond b (Single f) (Single g)) (p * width) p
  frame p true is =
      planned_single plan timing apart f flow pace group its paced of short bus (p * width) p (omega arith) (omega arith)
      (at_once timing pace.jitter (p * width)) is
  frame p false is =
      planned_single plan timing apart g other its_pace second other_is other_paced second_is also_short bus (p * width) p (omega arith) (omega arith)
      (at_once timing its_pace.jitter (p * width)) is

  -- the period of either
  either_ms : (b : Bool) (ms : ℕ) → IsSentEvery plan (cond b (Single f) (Single g)) ms → ms ≤ both
  either_ms true ms every =
      let same = period_is plan f flow pace its paced ms every in omega (arith, same)
  either_ms false ms every =
      let same = period_is plan g other its_pace other_is other_paced ms every in omega (arith, same)

  behind : (p q ms : ℕ) → p < q → ms ≤ both → IsMsBehind timing ms (p * width) (q * width)
  behind p q ms less few =
      let far = ends_before width p q less in
      let most : ms * bits_per_ms timing.bitrate ≤ both * bits_per_ms timing.bitrate = mul-le-mul_right (bits_per_ms timing.bitrate) few in
      in_ms_behind timing ms (p * width) (q * width) (omega (arith, far, most))

  seldom_of : (b : Bool) (k : ℕ) (answering : IsAnswering plan k) → IsOfFlow k (cond b (Single f) (Single g)) → IsAskedSeldom plan answering.flow
  seldom_of true k answering is = seldom_at plan f k flow its is seldom answering
  seldom_of false k answering is = seldom_at plan g k other other_is is other_seldom answering

  either_asks : (b : Bool) (k : ℕ) (answering : IsAnswering plan k) → IsOfFlow k (cond b (Single f) (Single g))
      → first_period plan.requests.items answering.flow ≤ both
  either_asks true k answering is =
      let same : flow ≡ answering.flow = same_Some _ _ (sym its ∙ (ap (slice_get plan.flows.items) is ∙ answering.its)) in
      let period = ap (first_period plan.requests.items) same in
      omega (arith, period)
  either_asks false k answering is =
      let same : other ≡ answering.flow = same_Some _ _ (sym other_is ∙ (ap (slice_get plan.flows.items) is ∙ answering.its)) in
      let period = ap (first_period plan.requests.items) same in
      omega (arith, period)

  no_messages : KeepsBroadcasts plan timing bus all_planned sent
  no_messages = none_sent plan timing bus all_planned sent (λ u. refl) (λ p u m. not_announced (first p) u m) (λ p u m k. not_carried (first p) u m k)
    where
      not_announced : (b : Bool) (v m : ℕ) → cond b (Single f) (Single g) ≡ Announcing v m → ⊥
      not_announced true v m same = let stated = same in cc
      not_announced false v m same = let stated = same in cc

      not_carried : (b : Bool) (v m k : ℕ) → cond b (Single f) (Single g) ≡ Carrying v m k → ⊥
      not_carried true v m k same = let stated = same in cc
      not_carried false v m k same = let stated = same in cc

  keeps : KeepsToPlan plan timing bus all_planned sent held
  keeps = keeps_all plan timing apart bus sent (λ p in_p. frame p (first p) refl)
      (λ p q ms differ one_source every. either_behind timing ms width (λ x y less. behind x y ms less (either_ms (first p) ms every)) p q differ)
      (answers_given plan timing bus sent held (λ p in_p. frame p (first p) refl) no_messages (λ p. p)
      (λ p k answering in_p is. seldom_of (first p) k answering is) (λ p q in_p in_q same one. one)
      (λ p q k answering in_p in_q is_p is_q order.
      places_behind timing (first_period plan.requests.items answering.flow) width p q
      (let most : first_period plan.requests.items answering.flow * bits_per_ms timing.bitrate ≤ both * bits_per_ms timing.bitrate =
      mul-le-mul_right (bits_per_ms timing.bitrate) (either_asks (first p) k answering is_p) in
      omega (arith, most)) order)
      (λ v m k answering below is. absurd (omega (arith, below))) (λ v m below. absurd (omega (arith, below))))
      no_messages

  sent_by : (b : Bool) (v : ℕ) → IsSentByUnit plan (cond b (Single f) (Single g)) v → cond b flow.sender other.sender ≡ v
  sent_by true v from = ap (λ (h : FlowPlan). h.sender) (same_Some _ _ (sym its ∙ from.1)) ∙ from.2
  sent_by false v from = ap (λ (h : FlowPlan). h.sender) (same_Some _ _ (sym other_is ∙ from.1)) ∙ from.2

  -- an identifier has 29 bits
  few : (b : Bool) → cond b first_ident other_ident < 2 ^ 29
  few true = few_ident plan timing apart f flow pace group its paced of short n number
  few false = few_ident plan timing apart g other its_pace second other_is other_paced second_is also_short n its_number

  queues : KeepsQueues plan timing bus (planned_controllers plan (λ p. cond (first p) flow.sender other.sender)) all_planned sent
  queues = keeps_queues plan timing bus sent (λ p. cond (first p) flow.sender other.sender) (λ p. sent_by (first p)) (λ p. few (first p))

  -- what it would send both flows have from others
  unsent : (b : Bool) → TakesPart plan (cond b (Single f) (Single g)) u → ⊥
  unsent true takes = not_by_it (sent_by true u takes)
  unsent false takes = other_not_by_it (sent_by false u takes)

  pub can_be_kept_without : CanBeKeptWithout plan timing u f g first n
  can_be_kept_without = record {
    bus = slots_kept plan timing apart width n (λ p. cond (first p) first_ident other_ident) (omega arith) sent
        (λ p. cond (first p) flow.sender other.sender) keeps queues;
    frames = refl;
    of_flows = λ p. refl;
    unsent = λ p. unsent (first p);
  }
