-- Silence is told of the flows that show it, and flows are judged by response times that are known.
use Rattle.std.proofs.Common.{◌≡◌, ℕ, zero, suc, ◌+◌, ◌*◌, ◌/◌, ◌<◌, ◌≤◌, Bool, true, false, not, ◌&&◌, leb, if◌then◌else◌, List, [], ◌∷◌}
use Rattle.std.proofs.Common.{map, Option, Some, None, refl, sym, ap, ◌∙◌, subst, inl, inr, arith}
use Rattle.std.proofs.Math.Nat.{lt-mul-div-succ}
use Rattle.std.proofs.lemmas.Bool.{and_from, and_parts, false≢true, le-leb, leb-true, not-true}
use Rattle.std.proofs.lemmas.List.{length-map}
use Rattle.std.proofs.lemmas.Option.{none-some, same_Some}
use Rattle.std.specs.List.{slice_get}
use Rattle.std.specs.Option.{option_and_then}
use Rattle.j39_load.specs.Loads.{us_of_bits}
use Rattle.j39_load.specs.declared.waits.delay.Delay.{Delay}
use Rattle.j39_load.specs.declared.waits.delay.Delay.TheVariants.{Beyond, Late, Long, Whole, Within}
use Rattle.j39_load.proofs.OneLoad.{one_asked}
use Rattle.j39_network.specs.declared.plan.flow_plan.FlowPlan.{FlowPlan}
use Rattle.j39_network.specs.declared.plan.group_plan.GroupPlan.{GroupPlan}
use Rattle.j39_network.specs.declared.plan.pace.Pace.{Pace}
use Rattle.j39_network.specs.declared.plan.timing.Timing.{Timing}
use Rattle.j39_network.specs.declared.plan.to.To.{To}
use Rattle.j39_network.specs.declared.plan.to.To.TheVariants.{All as ToAll, One as ToOne}
use Rattle.j39_network.specs.declared.plan.unit_plan.UnitPlan.{UnitPlan}
use Rattle.j39_audit.specs.Looking.{is_claiming}
use Rattle.j39_audit.specs.MessageStreams.{flow_pause, flow_pause_of, is_claiming_there, shows_silence, slack_by}
use Rattle.j39_audit.specs.UnitTimes.{longest_us}
use Rattle.j39_audit.specs.Responses.{AreResponsesBy, response}
use Rattle.j39_audit.specs.Settings.{Settings, response_of}
use Rattle.j39_audit.specs.declared.streams.FlowPause.{FlowPause}
use Rattle.j39_audit_laws.specs.JudgedFlows.{AreJudgedByTimes, IsClaimer, IsTimed, ShowsItsPause, SilenceIsToldOf, TimedFlowsAreJudged}

-- ---- silence

module _ (s : Settings) where
  claims : (u : ℕ) → is_claiming s u ≡ true → IsClaimer s.plan u
  claims u is = go (slice_get s.plan.units.items u) refl
    where
      go : (o : Option UnitPlan) → slice_get s.plan.units.items u ≡ o → IsClaimer s.plan u
      go None at = absurd (false≢true (rw at at is))
      go (Some unit) at = (unit, at, rw at at is)

  claiming : (u : ℕ) → IsClaimer s.plan u → is_claiming s u ≡ true
  claiming u its = rw (its.1) (its.2)

  receiver_claims : (to : To) → is_claiming_there s to ≡ true → (v : ℕ) → to ≡ ToOne v → IsClaimer s.plan v
  receiver_claims ToAll is v at = absurd (cc at)
  receiver_claims (ToOne u) is v at = subst (IsClaimer s.plan) (same_one u v at) (claims u is)
    where
      same_one : (u v : ℕ) → ToOne u ≡ ToOne v → u ≡ v
      same_one u v same = cc

  receiver_claiming : (to : To) → ((v : ℕ) → to ≡ ToOne v → IsClaimer s.plan v) → is_claiming_there s to ≡ true
  receiver_claiming ToAll its = refl
  receiver_claiming (ToOne v) its = claiming v (its v refl)

  module _ (t : Timing) (n : ℕ) where
    abbrev Told : Type 0
    Told = (s.part ≡ false) × ShowsItsPause s.plan n

    told : (p : FlowPause) → flow_pause s t n ≡ Some p → Told
    unfolding flow_pause
    told p is = by_flow (slice_get s.plan.flows.items n) refl is
      where
        shown : (flow : FlowPlan) (group : GroupPlan) (pace : Pace) (pause : ℕ) → slice_get s.plan.flows.items n ≡ Some flow → flow.pause ≡ Some pause
            → flow.pace ≡ Some pace → slice_get s.plan.groups.items flow.group ≡ Some group → shows_silence s flow group ≡ true → Told
        shown flow group pace pause at_flow at_pause at_pace at_group shows =
            let whole = and_parts (not s.part) (not flow.on_request
            && (leb group.most 8 && (is_claiming s flow.sender && is_claiming_there s flow.to))) shows in
            let unasked = and_parts (not flow.on_request) (leb group.most 8 && (is_claiming s flow.sender && is_claiming_there s flow.to)) whole.1 in
            let short = and_parts (leb group.most 8) (is_claiming s flow.sender && is_claiming_there s flow.to) unasked.1 in
            let ends = and_parts (is_claiming s flow.sender) (is_claiming_there s flow.to) short.1 in (
              not-true s.part whole.0,
              record {
                flow = flow;
                its = at_flow;
                pause = pause;
                has_pause = at_pause;
                pace = pace;
                has_pace = at_pace;
                unasked = not-true flow.on_request unasked.0;
                group = group;
                sends = at_group;
                short = leb-true group.most 8 short.0;
                sender = claims flow.sender ends.0;
                receiver = receiver_claims flow.to ends.1;
              },
            )

        by_test : (flow : FlowPlan) (group : GroupPlan) (pace : Pace) (pause : ℕ) → slice_get s.plan.flows.items n ≡ Some flow → flow.pause ≡ Some pause
            → flow.pace ≡ Some pace → slice_get s.plan.groups.items flow.group ≡ Some group → (q : FlowPause) (b : Bool) → shows_silence s flow group ≡ b
            → (if b then Some q else None) ≡ Some p → Told
        by_test flow group pace pause at_flow at_pause at_pace at_group q true shows some = shown flow group pace pause at_flow at_pause at_pace at_group shows
        by_test flow group pace pause at_flow at_pause at_pace at_group q false shows some = absurd (none-some p some)

        by_group : (flow : FlowPlan) (pace : Pace) (pause : ℕ) → slice_get s.plan.flows.items n ≡ Some flow → flow.pause ≡ Some pause → flow.pace ≡ Some pace
            → (o : Option GroupPlan) → slice_get s.plan.groups.items flow.group ≡ o
            → option_and_then (λ (group : GroupPlan). flow_pause_of s t n flow group pace pause) o ≡ Some p → Told
        by_group flow pace pause at_flow at_pause at_pace None at some = absurd (none-some p some)
        by_group flow pace pause at_flow at_pause at_pace (Some group) at some =
            by_test flow group pace pause at_flow at_pause at_pace at _ (shows_silence s flow group) refl some

        by_pace : (flow : FlowPlan) (pause : ℕ) → slice_get s.plan.flows.items n ≡ Some flow → flow.pause ≡ Some pause → (o : Option Pace) → flow.pace ≡ o
            → option_and_then (λ (pace : Pace). option_and_then (λ (group : GroupPlan). flow_pause_of s t n flow group pace pause)
            (slice_get s.plan.groups.items flow.group)) o ≡ Some p → Told
        by_pace flow pause at_flow at_pause None at some = absurd (none-some p some)
        by_pace flow pause at_flow at_pause (Some pace) at some = by_group flow pace pause at_flow at_pause at
            (slice_get s.plan.groups.items flow.group) refl some

        by_pause : (flow : FlowPlan) → slice_get s.plan.flows.items n ≡ Some flow → (o : Option ℕ) → flow.pause ≡ o
            → option_and_then (λ (pause : ℕ). option_and_then (λ (pace : Pace). option_and_then (λ (group : GroupPlan).
            flow_pause_of s t n flow group pace pause) (slice_get s.plan.groups.items flow.group)) flow.pace) o ≡ Some p → Told
        by_pause flow at_flow None at some = absurd (none-some p some)
        by_pause flow at_flow (Some pause) at some = by_pace flow pause at_flow at flow.pace refl some

        by_flow : (o : Option FlowPlan) → slice_get s.plan.flows.items n ≡ o
            → option_and_then (λ (flow : FlowPlan). option_and_then (λ (pause : ℕ). option_and_then (λ (pace : Pace). option_and_then (λ (group : GroupPlan).
            flow_pause_of s t n flow group pace pause) (slice_get s.plan.groups.items flow.group)) flow.pace) flow.pause) o ≡ Some p → Told
        by_flow None at some = absurd (none-some p some)
        by_flow (Some flow) at some = by_pause flow at flow.pause refl some

    telling : Told → (p : FlowPause) × (flow_pause s t n ≡ Some p)
    unfolding flow_pause
    telling (whole, its) =
        let ends = and_from (is_claiming s its.flow.sender) (is_claiming_there s its.flow.to) (claiming its.flow.sender its.sender)
        (receiver_claiming its.flow.to its.receiver) in
        let shows : shows_silence s its.flow its.group ≡ true =
        and_from (not s.part) _ (ap not whole) (and_from (not its.flow.on_request) _ (ap not its.unasked)
        (and_from (leb its.group.most 8) _ (le-leb its.group.most 8 its.short) ends)) in
        let found : FlowPause =
        record { pause = longest_us t its.pause; slack = slack_by s.bound (response_of s n) (longest_us t its.pace.jitter) } in
        (found, rw (its.its, its.has_pause, its.has_pace, its.sends, shows) refl)

pub silence_told : SilenceIsToldOf
silence_told s t n = (λ found. told s t n found.0 found.1, telling s t n)

-- ---- response times

-- a thousandth more of a number, rounded up
thousandth : (us : ℕ) → 1001 * us ≤ 1000 * (us + us / 1000 + 1)
thousandth us = let part : us < 1000 * (us / 1000 + 1) = lt-mul-div-succ us (omega arith) in omega (arith, part)

get_mapped : {X Y : Type 0} (f : X → Y) (xs : List X) (k : ℕ) (y : Y) → slice_get (map f xs) k ≡ Some y → (x : X) × (slice_get xs k ≡ Some x) × (f x ≡ y)
get_mapped f [] zero y at = absurd (none-some y at)
get_mapped f [] (suc k) y at = absurd (none-some y at)
get_mapped f (x ∷ xs) zero y at = (x, refl, same_Some (f x) y at)
get_mapped f (x ∷ xs) (suc k) y at = get_mapped f xs k y at

mapped : {X Y : Type 0} (f : X → Y) (xs : List X) (k : ℕ) (x : X) → slice_get xs k ≡ Some x → slice_get (map f xs) k ≡ Some (f x)
mapped f [] zero x at = absurd (none-some x at)
mapped f [] (suc k) x at = absurd (none-some x at)
mapped f (y ∷ ys) zero x at = ap (λ z. Some (f z)) (same_Some y x at)
mapped f (y ∷ ys) (suc k) x at = mapped f ys k x at

module _ (timing : Timing) (delays : List (Option Delay)) where
  timed_by : (n us : ℕ) (d : Option Delay) → slice_get delays n ≡ Some d → response timing d ≡ Some us → (bits : ℕ) × IsTimed delays n bits
  timed_by n us None at is = absurd (none-some us is)
  timed_by n us (Some (Within bits)) at is = (bits, inl at)
  timed_by n us (Some (Beyond bits)) at is = (bits, inr at)
  timed_by n us (Some Late) at is = absurd (none-some us is)
  timed_by n us (Some (Long count)) at is = absurd (none-some us is)
  timed_by n us (Some (Whole whole)) at is = absurd (none-some us is)

  judged : AreJudgedByTimes timing delays (map (response timing) delays)
  judged = record {
    count = length-map delays (response timing);
    judged = λ n bits timed. elim timed [
      | inl within ↦ (_, mapped (response timing) delays n (Some (Within bits)) within, thousandth (us_of_bits timing bits))
      | inr beyond ↦ (_, mapped (response timing) delays n (Some (Beyond bits)) beyond, thousandth (us_of_bits timing bits))
    ];
    others = λ n us at. let (d, at_d, is) = get_mapped (response timing) delays n (Some us) at in timed_by n us d at_d is;
  }

pub flows_judged : TimedFlowsAreJudged
flows_judged plan timing stays delays times known asks are =
    let (other, others, another, is) = subst (λ o. AreResponsesBy plan o times) known are in
    let same = (one_asked plan timing stays other delays others asks another).1 in
    subst (AreJudgedByTimes timing delays) (sym (is ∙ ap (map (response timing)) (sym same))) (judged timing delays)
