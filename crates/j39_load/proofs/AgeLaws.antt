-- How old what a unit needs is at most.
use Rattle.std.proofs.Common.{◌≡◌, ℕ, suc, if◌then◌else◌, ◌+◌, ◌*◌, ◌<◌, ◌≤◌, ◌⊎◌, Bool, true, false, not, ◌&&◌, List, [], ◌∷◌, ◌++◌, length, get_or, Option}
use Rattle.std.proofs.Common.{Some}
use Rattle.std.proofs.Common.{None, refl, sym, ap, ◌∙◌, subst, inl, inr, arith}
use Rattle.std.proofs.lemmas.Bool.{cases_Bool, cases_lt, false≢true, leb-true, true≢false}
use Rattle.std.proofs.lemmas.List.{length-map}
use Rattle.std.proofs.lemmas.Option.{none-some, same_Some, get_or_from_slice_get, slice_get-get_or, slice_get_within}
use Rattle.std.specs.List.{slice_get}
use Rattle.std.specs.Option.{option_map_or}
use Rattle.std.specs.Prelude.{slice_index_or}
use Rattle.j39_findings.specs.Findings.{Clean}
use Rattle.j39_network.specs.Serving.{Meets}
use Rattle.j39_findings.specs.Found.{is_unmet}
use Rattle.j39_network.specs.Serving.{meets}
use Rattle.j39_findings.proofs.CleanLaws.{parts_of}
use Rattle.j39_findings.proofs.Deciding.{Decides-is_unmet}
use Rattle.j39_network.proofs.Served.{Decides-meets}
use Rattle.j39_network.specs.declared.plan.Plan.{Plan}
use Rattle.j39_network.specs.declared.plan.flow_plan.FlowPlan.{FlowPlan}
use Rattle.j39_network.specs.declared.plan.need_plan.NeedPlan.{NeedPlan}
use Rattle.j39_network.specs.declared.plan.request_plan.RequestPlan.{RequestPlan}
use Rattle.j39_network.specs.declared.plan.timing.Timing.{Timing}
use Rattle.j39_network.specs.declared.plan.unit_plan.UnitPlan.{UnitPlan}
use Rattle.j39_load.specs.declared.waits.delay.Delay.{Delay}
use Rattle.j39_load.specs.declared.waits.delay.Delay.TheVariants.{Within, Beyond, Late, Long, Whole}
use Rattle.j39_load.specs.declared.findings.load_finding.LoadFinding.TheVariants.{NeedTooOld}
use Rattle.j39_load.specs.Ages.{ages_for, ages_of, is_in_limit, is_too_old, least, least_age, old_needs, oldness, smaller_known}
use Rattle.j39_load.specs.FreshNeeds.{AreNeedAgesBounds, AreNeedsFresh, IsNeedFresh}
use Rattle.j39_load.specs.LoadFindings.{AreLoadFindings, AsksOfBus, flows_asked_too_often, further_findings, load_findings}
use Rattle.j39_load.specs.Asked.{asked_of, total_load}
use Rattle.j39_load.specs.Loads.{us_of_bits, us_of_unit_ms}
use Rattle.j39_load.specs.FlowLoads.{load_of_flow, loads_of}
use Rattle.j39_load.specs.LineLists.{lines_of_each}
use Rattle.j39_load.proofs.BoundedFlows.{bounded}
use Rattle.j39_load.proofs.LeastKnown.{least_of_both}
use Rattle.j39_load.proofs.StreamsBefore.{none_of_two, stated_nothing}
use Rattle.j39_timing.proofs.Ages.{fresh}
use Rattle.j39_timing.specs.FreshFrames.{IsFresh}
use Rattle.j39_search.specs.ListPlaces.{SomeMeets}

-- ---- the least of some numbers

-- the smaller of two numbers is one of them
one_of_smaller : (a b : Option ℕ) (n : ℕ) → smaller_known a b ≡ Some n → (a ≡ Some n) ⊎ (b ≡ Some n)
one_of_smaller None b n is = inr is
one_of_smaller (Some x) None n is = inl is
one_of_smaller (Some x) (Some y) n is = elim (cases_lt x y) [
  | inl less ↦ inl (ap Some (let same = same_Some _ _ is in omega arith))
  | inr more ↦ inr (ap Some (let same = same_Some _ _ is in omega arith))
]

-- ---- whose age it is

module _ (timing : Timing) (age : ℕ) where
  -- what a single age is the sum of
  record IsSumOf (met : Bool) (flow : FlowPlan) (delay : Option Delay) : Type 0 where
    pub meets : met ≡ true
    pub unasked : flow.on_request ≡ false
    pub pause : ℕ
    pub paused : flow.pause ≡ Some pause
    pub bits : ℕ
    pub delayed : delay ≡ Some (Within bits)
    pub sum : age ≡ us_of_unit_ms timing pause + us_of_bits timing bits

  sum_within : (flow : FlowPlan) (bits : ℕ) (asked : Bool) (pause : Option ℕ) → flow.on_request ≡ asked → flow.pause ≡ pause
      → least (if asked then [] else option_map_or (λ p. (us_of_unit_ms timing p + us_of_bits timing bits) ∷ []) pause []) ≡ Some age
      → IsSumOf true flow (Some (Within bits))
  sum_within flow bits true pause asked paused is = absurd (none-some age is)
  sum_within flow bits false None asked paused is = absurd (none-some age is)
  sum_within flow bits false (Some pause) asked paused is = record {
    meets = refl;
    unasked = asked;
    pause = pause;
    paused = paused;
    bits = bits;
    delayed = refl;
    sum = sym (same_Some _ _ is);
  }

  sum_of : (met : Bool) (flow : FlowPlan) (delay : Option Delay) → least (if met then ages_of timing flow delay else []) ≡ Some age → IsSumOf met flow delay
  sum_of false flow delay is = absurd (none-some age is)
  sum_of true flow None is = absurd (none-some age is)
  sum_of true flow (Some (Beyond bits)) is = absurd (none-some age is)
  sum_of true flow (Some Late) is = absurd (none-some age is)
  sum_of true flow (Some (Long frames)) is = absurd (none-some age is)
  sum_of true flow (Some (Whole whole)) is = absurd (none-some age is)
  sum_of true flow (Some (Within bits)) is = sum_within flow bits flow.on_request flow.pause refl refl is

  module _ (requests : List RequestPlan) (delays : List (Option Delay)) (need : NeedPlan) where
    -- it is that of a flow
    of_flow : (place : ℕ) (flows : List FlowPlan) → least (lines_of_each (ages_for timing requests delays need) place flows) ≡ Some age
        → (k : ℕ) × (flow : FlowPlan) × (slice_get flows k ≡ Some flow) × (least (ages_for timing requests delays need (place + k) flow) ≡ Some age)
    unfolding lines_of_each
    of_flow place [] is = absurd (none-some age is)
    of_flow place (flow ∷ flows) is =
        let report = ages_for timing requests delays need in
        elim (one_of_smaller (least (report place flow)) (least (lines_of_each report (place + 1) flows)) age
        (sym (least_of_both (report place flow) (lines_of_each report (place + 1) flows)) ∙ is)) [
          | inl here ↦ (0, flow, refl, ap (λ (n : ℕ). least (report n flow)) (omega arith) ∙ here)
          | inr behind ↦
              let (k, other, at, its) = of_flow (place + 1) flows behind in
              (suc k, other, at, ap (λ (n : ℕ). least (report n other)) (omega arith) ∙ its)
        ]

-- ---- needs that aren't too old

young_age : (limit : ℕ) (age : Option ℕ) → is_in_limit limit age ≡ true → (n : ℕ) × (age ≡ Some n) × (n ≤ limit)
young_age limit None young = absurd (false≢true young)
young_age limit (Some n) young = (n, refl, leb-true n limit young)

never_stated : {X : Type 0} (test : Bool) (x : X) → (if test then x ∷ [] else []) ≡ [] → test ≡ false
never_stated true x none = cc
never_stated false x none = refl

asked_old : (timing : Timing) (requests : List RequestPlan) (flows : List FlowPlan) (delays : List (Option Delay)) (place : ℕ) (need : NeedPlan) (within : ℕ)
    (asked : Option ℕ)
    → asked ≡ Some within
    → option_map_or (λ w. if is_too_old timing requests flows delays need w then NeedTooOld place ∷ [] else []) asked [] ≡ []
    → is_too_old timing requests flows delays need within ≡ false
asked_old timing requests flows delays place need within None is none = absurd (none-some within is)
asked_old timing requests flows delays place need within (Some w) is none =
    subst (λ (n : ℕ). is_too_old timing requests flows delays need n ≡ false) (same_Some w within is) (never_stated _ _ none)

young_where : (unmet young : Bool) → unmet ≡ false → (not unmet && not young) ≡ false → young ≡ true
young_where true young met none = absurd (true≢false met)
young_where false true met none = refl
young_where false false met none = absurd (true≢false none)

-- what has an age brings it on every bus, where this is no more than so many microseconds
module _ (plan : Plan) (timing : Timing) (stays : UnitPlan → Bool) (delays : List (Option Delay)) (asks : AsksOfBus plan timing stays delays)
    (need : NeedPlan) (age most : ℕ) (is_age : least_age timing plan.requests.items plan.flows.items delays need ≡ Some age) (young : age ≤ most) where
  pub aged_need : IsNeedFresh plan timing (asked_of timing plan stays) delays need most
  aged_need =
      let (place, flow, its, single) = of_flow timing age plan.requests.items delays need 0 plan.flows.items is_age in
      let sum = sum_of timing age (meets plan.requests.items need flow) flow (slice_index_or delays (0 + place) None) single in
      let below : place < length delays =
      let inside = slice_get_within plan.flows.items place flow its in
      let count = asks.waits.count in
      let sized : length (loads_of timing plan stays) ≡ length plan.flows.items = length-map plan.flows.items (load_of_flow timing plan stays) in
      omega (arith, count, inside, sized) in
      let here : slice_get delays place ≡ Some (slice_index_or delays place None) = slice_get-get_or delays place None below in
      let zero_place : 0 + place ≡ place = omega arith in
      let delayed : slice_get delays place ≡ Some (Some (Within sum.bits)) =
      here ∙ ap Some (ap (λ (k : ℕ). slice_index_or delays k None) (sym zero_place) ∙ sum.delayed) in
      let bound = bounded plan timing stays delays asks place sum.bits delayed in
      record {
        place = place;
        flow = flow;
        its = its;
        meets = (Decides-meets plan.requests.items need flow).0 sum.meets;
        unasked = sum.unasked;
        pause = sum.pause;
        paused = sum.paused;
        bits = sum.bits;
        delayed = delayed;
        young = omega (arith, young, sum.sum);
        bounded = bound;
        in_any_order = λ silent s controllers planned of legal known from to coming seen.
            subst (λ (b : ℕ). IsFresh s planned of place (silent + b) (from + b) (to + b)) (sym bound.sum)
            (fresh s planned of place bound.frames.stream bound.wait silent from to
            (bound.in_any_order s controllers planned of legal known) coming seen);
        fresh = λ silent ordered s planned of legal known from to coming seen.
            subst (λ (b : ℕ). IsFresh s planned of place (silent + b) (from + b) (to + b)) (sym bound.sum)
            (fresh s planned of place bound.frames.stream bound.wait silent from to
            (bound.bounds ordered s planned of legal known) coming seen);
      }

module _ (plan : Plan) (timing : Timing) (clean : Clean plan) (stays : UnitPlan → Bool) (delays : List (Option Delay))
    (asks : AsksOfBus plan timing stays delays)
    (none : load_findings timing (total_load timing (asked_of timing plan stays)) delays ++ further_findings plan timing delays ≡ []) where
  parts : (load_findings timing (total_load timing (asked_of timing plan stays)) delays ≡ [])
      × (old_needs timing plan.requests.items plan.flows.items delays plan.needs.items ≡ [])
  parts =
      let (now, further) = none_of_two (load_findings timing (total_load timing (asked_of timing plan stays)) delays) (further_findings plan timing delays) none
      in (
        now,
        (none_of_two (old_needs timing plan.requests.items plan.flows.items delays plan.needs.items)
            (flows_asked_too_often plan.requests.items plan.flows.items) further).0,
      )

  module _ (n : ℕ) (need : NeedPlan) (within : ℕ) (at : slice_get plan.needs.items n ≡ Some need) (asked : need.within ≡ Some within) where
    not_too_old : is_too_old timing plan.requests.items plan.flows.items delays need within ≡ false
    not_too_old =
        let stated = stated_nothing (oldness timing plan.requests.items plan.flows.items delays) 0 plan.needs.items parts.1 n need at in
        asked_old timing plan.requests.items plan.flows.items delays (0 + n) need within need.within asked stated

    met : is_unmet plan.requests.items plan.flows.items need ≡ false
    met = elim (cases_Bool (is_unmet plan.requests.items plan.flows.items need)) [
      | inl unmet ↦ absurd ((Decides-is_unmet plan.requests.items plan.flows.items need).0 unmet (met_at n need at))
      | inr is ↦ is
    ]
      where
        met_at : (k : ℕ) (d : NeedPlan) → slice_get plan.needs.items k ≡ Some d → SomeMeets (Meets plan.requests.items d) plan.flows.items
        met_at k d is =
            let below = slice_get_within plan.needs.items k d is in
            let here : get_or plan.needs.items k d ≡ d = get_or_from_slice_get plan.needs.items k d d is in
            subst (λ (x : NeedPlan). SomeMeets (Meets plan.requests.items x) plan.flows.items) here ((parts_of plan clean).needs k d below)

    fresh_need : IsNeedFresh plan timing (asked_of timing plan stays) delays need (1000 * within)
    fresh_need =
        let (age, is_age, young) = young_age _ _ (young_where _ _ met not_too_old) in
        aged_need plan timing stays delays asks need age (1000 * within) is_age young

pub fresh_where_checked : (plan : Plan) (timing : Timing) → Clean plan → AreLoadFindings plan (Some timing) [] → AreNeedsFresh plan timing
fresh_where_checked plan timing clean (stays, delays, asks, none) =
    (stays, delays, asks, fresh_need plan timing clean stays delays asks (sym none))

-- whatever the need asks for
pub ages_bound : (plan : Plan) (timing : Timing) (stays : UnitPlan → Bool) (delays : List (Option Delay)) → AsksOfBus plan timing stays delays
    → AreNeedAgesBounds plan timing (asked_of timing plan stays) delays
ages_bound plan timing stays delays asks n need age at is_age = aged_need plan timing stays delays asks need age age is_age (omega arith)
