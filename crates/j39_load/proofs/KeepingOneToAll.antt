-- What a bus keeps on which one long message is sent to all, its frames in slots one behind the other, whatever goes in the other slots.
use Rattle.std.proofs.Common.{◌≡◌, ℕ, ◌+◌, ◌*◌, ◌<◌, ◌≤◌, Bool, true, false, cond, eqb, Some, refl, sym, ap, ◌∙◌, subst, inl, inr, arith}
use Rattle.std.proofs.Math.Nat.{mul-le-mul_right}
use Rattle.std.proofs.lemmas.Bool.{cases_lt, eq-eqb, eqb-true}
use Rattle.std.specs.List.{slice_get}
use Rattle.j39_id.specs.Ident.{identifier_of}
use Rattle.j39_network.specs.PlannedUnits.{units_of}
use Rattle.j39_network.specs.declared.plan.Plan.{Plan}
use Rattle.j39_network.specs.declared.plan.flow_plan.FlowPlan.{FlowPlan}
use Rattle.j39_network.specs.declared.plan.group_plan.GroupPlan.{GroupPlan}
use Rattle.j39_network.specs.declared.plan.pace.Pace.{Pace}
use Rattle.j39_network.specs.declared.plan.timing.Timing.{Timing}
use Rattle.j39_network.specs.declared.plan.to.To.TheVariants.{All}
use Rattle.j39_timing.specs.Rounds.{all_planned}
use Rattle.j39_timing.specs.TimedFrames.{Schedule}
use Rattle.j39_world.specs.HeldAddresses.{ArePlannedApart}
use Rattle.j39_load.specs.KeepsAnswers.{IsAnswering, IsOfFlow}
use Rattle.j39_load.specs.KeepsBroadcasts.{KeepsBroadcasts, KeepsTurns}
use Rattle.j39_load.specs.KeepsPlan.{KeepsToPlan}
use Rattle.j39_load.specs.Loads.{bits_per_ms}
use Rattle.j39_load.specs.SentFrames.{Announcing, Broadcasts, Carrying, FrameSources, IsBroadcastFrame, IsFrameOf, IsMsBehind, Source}
use Rattle.j39_load.proofs.AnswersGiven.{answers_given, first_period}
use Rattle.j39_load.proofs.KeepingPlanned.{IsAskedSeldom, keeps_all, planned_address, planned_held, planned_sender, seldom_at}
use Rattle.j39_load.proofs.Milliseconds.{at_once, in_ms_behind}
use Rattle.j39_load.proofs.Slots.{ends_before, slots}

-- the message, the slots, and what goes in each of them: no two have one source
pub record OneToAll (plan : Plan) (timing : Timing) : Type 0 where
  pub f : ℕ
  pub flow : FlowPlan
  pub pace : Pace
  pub group : GroupPlan
  pub its : slice_get plan.flows.items f ≡ Some flow
  pub paced : flow.pace ≡ Some pace
  pub of : slice_get plan.groups.items flow.group ≡ Some group
  pub long : 8 < group.most
  pub to_all : flow.to ≡ All
  pub packets : ℕ
  pub two : 2 ≤ packets
  pub shortest : group.length ≤ 7 * packets
  pub longest : 7 * packets < group.most + 7
  pub width : ℕ
  pub wide : 80 + timing.broadcast_gap * bits_per_ms timing.bitrate ≤ width
  pub count : ℕ
  pub ident : ℕ → ℕ
  pub source : ℕ → Source
  pub release : ℕ → ℕ
  pub slot_of : Source → ℕ
  pub slot_stated : (p : ℕ) → slot_of (source p) ≡ p
  -- the slot of the announcement
  pub first : ℕ
  pub announced : (u m : ℕ) → slot_of (Announcing u m) ≡ first
  pub carried : (u m k : ℕ) → first ≤ slot_of (Carrying u m k)
  -- no more is asked of the flows than their periods let, and frames of one flow have one release
  pub few : IsAskedSeldom plan flow
  pub others_few : (p g : ℕ) (answering : IsAnswering plan g) → IsOfFlow g (source p) → IsAskedSeldom plan answering.flow
  pub one_release : (p q g : ℕ) → IsAnswering plan g → p < count → q < count → IsOfFlow g (source p) → IsOfFlow g (source q) → release p ≡ release q

module _ (plan : Plan) (timing : Timing) (apart : ArePlannedApart (units_of plan)) (one : OneToAll plan timing) where
  abbrev u : ℕ
  u = one.flow.sender

  abbrev bus : Schedule
  bus = slots one.width one.count one.ident

  abbrev pub messages : Broadcasts
  messages = record {
    count = λ x. cond (eqb x u) 1 0;
    flow = λ x m. one.f;
    release = λ x m. one.first * one.width;
    wanted = λ x m. one.first * one.width;
    announced = λ x m. one.first * one.width;
    packets = λ x m. one.packets;
  }

  abbrev pub sent : FrameSources
  sent = record { source = one.source; release = one.release; broadcasts = messages }

  pub one_message : messages.count u ≡ 1
  one_message = ap (λ (b : Bool). cond b 1 0) (eq-eqb u u refl)

  pub to_each : (p number : ℕ) → one.ident p ≡ identifier_of timing.transport_priority number 255 (planned_address plan apart u)
      → IsBroadcastFrame timing bus (planned_held plan apart) messages number u 0 (p * one.width) p
  to_each p number is = record {
    known = omega (arith, one_message);
    length = omega arith;
    at_once = refl;
    sender_named = λ t queued. planned_sender plan apart one.f one.flow one.its;
    identifier = λ t queued. is;
  }

  same_slot : (p q : ℕ) → one.source p ≡ one.source q → p ≡ q
  same_slot p q same = sym (one.slot_stated p) ∙ (ap one.slot_of same ∙ one.slot_stated q)

  pub only_message : (x m : ℕ) → m < messages.count x → (m ≡ 0) × (x ≡ u)
  only_message x m below = go (eqb x u) refl below
    where
      go : (b : Bool) → eqb x u ≡ b → m < cond b 1 0 → (m ≡ 0) × (x ≡ u)
      go true is below = (omega (arith, below), eqb-true x u is)
      go false is below = absurd (omega (arith, below))

  never_two : (x m k : ℕ) → m < k → k < messages.count x → ⊥
  never_two x m k less below = let none = (only_message x k below).0 in omega (arith, less, none)

  broadcasts : KeepsBroadcasts plan timing bus all_planned sent
  broadcasts = record {
    messages = λ x m below. record {
      flow = one.flow;
      its = one.its;
      from = sym (only_message x m below).1;
      to_all = one.to_all;
      pace = one.pace;
      paced = one.paced;
      group = one.group;
      of = one.of;
      long = one.long;
      two = one.two;
      shortest = one.shortest;
      longest = one.longest;
      release_first = omega arith;
      jitter_at_most = at_once timing one.pace.jitter _;
      wanted_first = omega arith;
    };
    apart = λ x m k ms pair. absurd (never_two x m k pair.0 pair.1);
    one_waits = λ x m k pair. absurd (never_two x m k pair.0 pair.1);
    in_turn = λ x m k less below. absurd (never_two x m k less below);
    announced = λ p x m in_p is source.
        ap (λ (k : ℕ). k * one.width) (sym (one.slot_stated p) ∙ (ap one.slot_of source ∙ one.announced x m));
    once = λ p q x m in_p in_q is_p is_q first second. same_slot p q (first ∙ sym second);
    carried = λ p q x m k in_p in_q is_p is_q first second. same_slot p q (first ∙ sym second);
    behind = λ p x m k in_p is source.
        let slot = sym (one.slot_stated p) ∙ ap one.slot_of source in
        let later = one.carried x m k in
        mul-le-mul_right one.width (omega (arith, slot, later));
    before = λ p x m k later in_p is source less below. absurd (never_two x m later less below);
    gaps = λ p q x m later j k in_p in_q other is_p is_q first second.
        let wide = one.wide in
        elim (cases_lt p q) [
          | inl less ↦ inl (in_ms_behind timing timing.broadcast_gap (p * one.width) (q * one.width)
              (let far = ends_before one.width p q less in omega (arith, far, wide)))
          | inr past ↦ inr (in_ms_behind timing timing.broadcast_gap (q * one.width) (p * one.width)
              (let far = ends_before one.width q p (omega (arith, past, other)) in omega (arith, far, wide)))
        ];
  }

  pub turns : KeepsTurns bus all_planned sent (planned_held plan apart)
  turns = record {
    one_by_one = λ p q x in_p in_q other is_p is_q first second.
        let wide = one.wide in
        elim (cases_lt p q) [
          | inl less ↦ inl (let far = ends_before one.width p q less in omega (arith, far, wide))
          | inr past ↦ inr (let far = ends_before one.width q p (omega (arith, past, other)) in omega (arith, far, wide))
        ];
    steady = λ p q x in_p in_q is_p is_q first second before waits. refl;
  }

  pub keeps : ((p : ℕ) → p < one.count → IsFrameOf plan timing bus (planned_held plan apart) messages (one.source p) (one.release p) p)
      → KeepsToPlan plan timing bus all_planned sent (planned_held plan apart)
  keeps frames =
      keeps_all plan timing apart bus sent frames (λ p q ms differ same every. absurd (differ (same_slot p q same)))
      (answers_given plan timing bus sent (planned_held plan apart) frames broadcasts (λ p. 0) (λ p g answering in_p is. one.others_few p g answering is)
      (λ p q in_p in_q same number. same_slot p q same)
      (λ p q g answering in_p in_q is_p is_q order.
      let release = one.one_release p q g answering in_p in_q is_p is_q in
      let nothing : 0 ≡ 0 * first_period plan.requests.items answering.flow = omega arith in
      subst (λ (x : ℕ). IsMsBehind timing x (one.release p) (one.release q)) nothing
      (in_ms_behind timing 0 (one.release p) (one.release q) (omega (arith, release))))
      (λ x m g answering below is. seldom_at plan one.f g one.flow one.its is one.few answering) (λ x m below. (only_message x m below).0))
      broadcasts
