-- That a flow has no period is reported exactly where something is known of the bus.
use Rattle.std.proofs.Common.{◌≡◌, ℕ, ◌+◌, ◌<◌, List, ◌++◌, length, map, Bool, true, is_some, Contains, Option, Some, None, option_map, refl, sym, ◌∙◌, ap}
use Rattle.std.proofs.Common.{subst, inl, inr, arith, slice_index_or}
use Rattle.std.specs.List.{slice_get}
use Rattle.std.specs.Option.{option_and_then}
use Rattle.std.proofs.lemmas.List.{length-map}
use Rattle.std.proofs.lemmas.List.Elements.{Contains-append_cases, Contains-append_left}
use Rattle.std.proofs.lemmas.Option.{get_or_from_slice_get, none-some, same_Some, slice_get-get_or, slice_get-map, slice_get_within}
use Rattle.j39_load.specs.Ages.{old_needs}
use Rattle.j39_load.specs.Asked.{asked_of, total_load}
use Rattle.j39_load.specs.BusTimes.{timing_of, with_claims}
use Rattle.j39_load.specs.Delays.{HasDelay}
use Rattle.j39_load.specs.LineLists.{lines_of_each}
use Rattle.j39_load.proofs.ReportedLines.{of_asked}
use Rattle.j39_load.specs.LoadFindings.{all_findings, AreLoadFindings, flows_asked_too_often, AsksOfBus, further_findings, lateness, load_findings, overload}
use Rattle.j39_load.specs.LoadFindings.{without_period}
use Rattle.j39_load.specs.FlowLoads.{asked_load, load_of_flow}
use Rattle.j39_load.specs.declared.findings.load_finding.LoadFinding.{LoadFinding}
use Rattle.j39_load.specs.declared.findings.load_finding.LoadFinding.TheVariants.{NoPeriod, Overload, LateFlow, NeedTooOld, AskedTooOften}
use Rattle.j39_load.specs.declared.loads.flow_load.FlowLoad.{FlowLoad}
use Rattle.j39_load.specs.declared.waits.delay.Delay.{Delay}
use Rattle.j39_network.specs.declared.plan.Plan.{Plan}
use Rattle.j39_network.specs.declared.plan.flow_plan.FlowPlan.{FlowPlan}
use Rattle.j39_network.specs.declared.plan.pace.Pace.{Pace}
use Rattle.j39_network.specs.declared.plan.timing.Timing.{Timing}
use Rattle.j39_network.specs.declared.plan.unit_plan.UnitPlan.{UnitPlan}
use Rattle.j39_search.proofs.Members.{all_at}
use Rattle.j39_part_laws.proofs.LoadFindings.{itself, line_reported, none_of, of_late, of_old, of_overload, of_unpaced, reported_at}
use Rattle.j39_part_laws.proofs.Places.{value_at}

-- the flow at a place has no period
pub record IsUnpaced (plan : Plan) (f : ℕ) : Type 0 where
  pub flow : FlowPlan
  pub flow_is : slice_get plan.flows.items f ≡ Some flow
  pub unpaced : flow.pace ≡ None

module _ (plan : Plan) (timing : Timing) (stays : UnitPlan → Bool) (ds : List (Option Delay)) (asks : AsksOfBus plan timing stays ds) where
  abbrev load : ℕ
  load = total_load timing (asked_of timing plan stays)

  counted : length ds ≡ length plan.flows.items
  counted = asks.waits.count ∙ length-map plan.flows.items (load_of_flow timing plan stays)

  asked_at : (f : ℕ) (flow : FlowPlan) → slice_get plan.flows.items f ≡ Some flow
      → slice_get (map (load_of_flow timing plan stays) plan.flows.items) f ≡ Some (load_of_flow timing plan stays flow)
  asked_at f flow at_f = slice_get-map (load_of_flow timing plan stays) plan.flows.items f ∙ ap (option_map (load_of_flow timing plan stays)) at_f

  -- what a flow with a period asks is known
  load_is : (f : ℕ) (flow : FlowPlan) → slice_get plan.flows.items f ≡ Some flow → (pace : Pace) → flow.pace ≡ Some pace
      → (l : FlowLoad) × (load_of_flow timing plan stays flow ≡ Some l)
  load_is f flow at_f pace paced =
      let (group, at_group) = value_at plan.groups.items flow.group
      (all_at (λ (x : FlowPlan). x.group < length plan.groups.items) plan.flows.items plan.flow_groups f flow at_f) in (
        asked_load timing plan.requests.items plan.units.items stays flow pace group,
        ap (option_and_then (λ p. option_map (asked_load timing plan.requests.items plan.units.items stays flow p)
            (slice_get plan.groups.items flow.group))) paced
            ∙ ap (option_map (asked_load timing plan.requests.items plan.units.items stays flow pace)) at_group,
      )

  unpaced_by : (f : ℕ) (flow : FlowPlan) → slice_get plan.flows.items f ≡ Some flow → slice_get (map (load_of_flow timing plan stays) plan.flows.items) f
      ≡ Some None
      → flow.pace ≡ None
  unpaced_by f flow at_f none = go flow.pace refl
    where
      go : (o : Option Pace) → flow.pace ≡ o → flow.pace ≡ None
      go None is_o = is_o
      go (Some pace) is_o =
          let (l, is_l) = load_is f flow at_f pace is_o in
          absurd (none-some l (same_Some _ _ (sym none ∙ asked_at f flow at_f) ∙ is_l))

  no_delay : (f : ℕ) (flow : FlowPlan) → slice_get plan.flows.items f ≡ Some flow → flow.pace ≡ None → (d : Option Delay)
      → HasDelay timing (asked_of timing plan stays) f d → d ≡ None
  no_delay f flow at_f unpaced None has = refl
  no_delay f flow at_f unpaced (Some delay) (buffering, is, (l, is_l, rest)) =
      absurd (none-some l (ap (option_and_then (λ p. option_map (asked_load timing plan.requests.items plan.units.items stays flow p)
      (slice_get plan.groups.items flow.group))) (sym unpaced)
      ∙ same_Some _ _ (sym (asked_at f flow at_f) ∙ is_l)))

  has_delay : (f : ℕ) → f < length ds → HasDelay timing (asked_of timing plan stays) f (slice_index_or ds f None)
  has_delay f below = asks.waits.each f below

  reported_unpaced : (f : ℕ) → Contains (all_findings plan timing load ds) (NoPeriod f) → IsUnpaced plan f
  reported_unpaced f reported =
      elim (Contains-append_cases (load_findings timing load ds) (further_findings plan timing ds) (NoPeriod f) reported) [
        | inr further ↦ elim (Contains-append_cases (old_needs timing plan.requests.items plan.flows.items ds plan.needs.items)
            (flows_asked_too_often plan.requests.items plan.flows.items) (NoPeriod f) further) [
              | inl old ↦ let (d, is_it) = of_old timing plan ds (NoPeriod f) old in absurd (not_old f d is_it)
              | inr asked ↦ absurd (let its = of_asked plan.requests.items plan.flows.items (NoPeriod f) asked in not_asked f its.0 its.4)
            ]
        | inl others ↦ elim (Contains-append_cases (lines_of_each without_period 0 ds) (overload timing load ++ lines_of_each lateness 0 ds)
            (NoPeriod f) others) [
              | inl here ↦ found here
              | inr more ↦ elim (Contains-append_cases (overload timing load) (lines_of_each lateness 0 ds) (NoPeriod f) more) [
                | inl much ↦ absurd (not_much f load (of_overload timing load (NoPeriod f) much).1)
                | inr late ↦
                    let its = reported_at lateness 0 ds (NoPeriod f) late in
                    absurd (not_late f (0 + its.k) (of_late (0 + its.k) its.value (NoPeriod f) its.reported))
              ]
            ]
      ]
    where
      not_old : (a b : ℕ) → NoPeriod a ≡ NeedTooOld b → ⊥
      not_old a b same = cc

      not_asked : (a b : ℕ) → NoPeriod a ≡ AskedTooOften b → ⊥
      not_asked a b same = cc

      not_much : (a b : ℕ) → NoPeriod a ≡ Overload b → ⊥
      not_much a b same = cc

      not_late : (a b : ℕ) → NoPeriod a ≡ LateFlow b → ⊥
      not_late a b same = cc

      one_flow : (a b : ℕ) → NoPeriod a ≡ NoPeriod b → a ≡ b
      one_flow a b same = cc

      found : Contains (lines_of_each without_period 0 ds) (NoPeriod f) → IsUnpaced plan f
      found here =
          let its = reported_at without_period 0 ds (NoPeriod f) here in
          let (none, is_it) = of_unpaced (0 + its.k) its.value (NoPeriod f) its.reported in
          let below = slice_get_within ds its.k its.value its.value_is in
          let count = counted in
          let same = one_flow f (0 + its.k) is_it in
          let is_k : its.k ≡ f = omega (arith, same) in
          let (flow, at_k) = value_at plan.flows.items its.k (omega (arith, below, count)) in
          let is_d : slice_index_or ds its.k None ≡ None = get_or_from_slice_get ds its.k its.value None its.value_is ∙ none in
          let has = subst (HasDelay timing (asked_of timing plan stays) its.k) is_d (has_delay its.k below) in
          record {
            flow = flow;
            flow_is = ap (slice_get plan.flows.items) (sym is_k) ∙ at_k;
            unpaced = unpaced_by its.k flow at_k has.2;
          }

  unpaced_reported : (f : ℕ) → IsUnpaced plan f → Contains (all_findings plan timing load ds) (NoPeriod f)
  unpaced_reported f its =
      let inside = slice_get_within plan.flows.items f its.flow its.flow_is in
      let count = counted in
      let below : f < length ds = omega (arith, inside, count) in
      let none = no_delay f its.flow its.flow_is its.unpaced (slice_index_or ds f None) (has_delay f below) in
      let zero : f ≡ 0 + f = omega arith in
      Contains-append_left (load_findings timing load ds) (further_findings plan timing ds) (NoPeriod f)
      (Contains-append_left (lines_of_each without_period 0 ds) (overload timing load ++ lines_of_each lateness 0 ds) (NoPeriod f)
      (line_reported without_period 0 ds f None (NoPeriod f) (slice_get-get_or ds f None below ∙ ap Some none)
      (subst (λ n. Contains (without_period n None) (NoPeriod f)) zero (itself (NoPeriod f)))))

module _ (plan : Plan) (others : List LoadFinding) where
  reported_by : (o : Option Timing) → AreLoadFindings plan (option_map (with_claims plan) o) others → (f : ℕ) → Contains others (NoPeriod f)
      → (is_some o ≡ true) × IsUnpaced plan f
  reported_by None none f reported = absurd (none_of (NoPeriod f) (subst (λ l. Contains l (NoPeriod f)) none reported))
  reported_by (Some timing) (stays, ds, asks, are) f reported =
      (refl, reported_unpaced plan (with_claims plan timing) stays ds asks f (subst (λ l. Contains l (NoPeriod f)) are reported))

  by_reported : (o : Option Timing) → AreLoadFindings plan (option_map (with_claims plan) o) others → (f : ℕ) → is_some o ≡ true → IsUnpaced plan f
      → Contains others (NoPeriod f)
  by_reported None none f some unpaced = cc
  by_reported (Some timing) (stays, ds, asks, are) f some unpaced =
      subst (λ l. Contains l (NoPeriod f)) (sym are) (unpaced_reported plan (with_claims plan timing) stays ds asks f unpaced)

  module _ (are : AreLoadFindings plan (timing_of plan) others) (f : ℕ) where
    pub no_period_reported : Contains others (NoPeriod f) → (is_some plan.timing ≡ true) × IsUnpaced plan f
    unfolding timing_of
    no_period_reported = reported_by plan.timing are f

    pub reported_no_period : is_some plan.timing ≡ true → IsUnpaced plan f → Contains others (NoPeriod f)
    unfolding timing_of
    reported_no_period = by_reported plan.timing are f
