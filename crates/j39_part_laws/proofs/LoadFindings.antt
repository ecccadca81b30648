-- What is found of the load of a part is found of the whole's, but for what is too old.
use Rattle.std.proofs.Common.{◌≡◌, ℕ, ◌+◌, ◌<◌, ◌≤◌, max, Bool, true, false, not, cond, if◌then◌else◌, List, [], ◌∷◌, ◌++◌, length, Contains}
use Rattle.std.proofs.Common.{Option, Some, None, option_map, refl, sym, ◌∙◌, ap, subst, inl, inr, arith, slice_index_or}
use Rattle.std.specs.List.{slice_get}
use Rattle.std.specs.Option.{option_map_or}
use Rattle.std.proofs.lemmas.Bool.{cases_Bool, false≢true, le-leb, leb-true, lt-ltb}
use Rattle.std.proofs.lemmas.List.{length-map}
use Rattle.std.proofs.lemmas.List.Elements.{Contains-append_cases, Contains-append_left, Contains-append_right}
use Rattle.std.proofs.lemmas.Option.{get_or_from_slice_get, none-some, slice_get-get_or, slice_get_within}
use Rattle.j39_network.specs.declared.plan.Plan.{Plan}
use Rattle.j39_network.specs.declared.plan.timing.Timing.{Timing}
use Rattle.j39_network.specs.declared.plan.unit_plan.UnitPlan.{UnitPlan}
use Rattle.j39_load.specs.Ages.{is_in_limit, old_needs}
use Rattle.j39_load.specs.Asked.{asked_of, total_load}
use Rattle.j39_load.specs.BusTimes.{timing_of, with_claims}
use Rattle.j39_load.specs.LineLists.{lines_of_each}
use Rattle.j39_load.specs.LiveClaims.{claims_stated, unplanned_of}
use Rattle.j39_load.specs.LoadFindings.{all_findings, AreLoadFindings, flows_asked_too_often, AsksOfBus, further_findings, is_whole_late, lateness}
use Rattle.j39_load.specs.LoadFindings.{load_findings, overload, time_of_each, without_period}
use Rattle.j39_load.specs.Loads.{bits_of_second}
use Rattle.j39_load.specs.FlowLoads.{load_of_flow}
use Rattle.j39_load.specs.declared.findings.load_finding.LoadFinding.{LoadFinding}
use Rattle.j39_load.specs.declared.findings.load_finding.LoadFinding.TheVariants.{NoPeriod, Overload, LateFlow, AskedTooOften}
use Rattle.j39_load.specs.declared.waits.delay.Delay.{Delay}
use Rattle.j39_load.specs.declared.waits.delay.Delay.TheVariants.{Beyond, Late, Long, Whole, Within}
use Rattle.j39_load.specs.declared.waits.whole_time.WholeTime.{WholeTime}
use Rattle.j39_load.specs.inside.FewClaims.{few_unplanned}
pub use Rattle.j39_load.proofs.ReportedLines.{itself, line_reported, none_of, of_late, of_old, of_overload, of_unpaced, one_of, reported_at}
use Rattle.j39_load.proofs.ReportedLines.{asked_reported, of_asked}
use Rattle.j39_part_laws.specs.ByAbsence.{AreFoundThere, IsFoundThere}
use Rattle.j39_part_laws.specs.PartDelays.{IsNoLater, IsWholeNoLater}
use Rattle.j39_part_laws.specs.PartLoads.{counting, HasGoodNumbers}
use Rattle.j39_part_laws.specs.PlanParts.{IsPartAt, IsSame, Places}
use Rattle.j39_part_laws.proofs.AskedMore.{too_often_there}
use Rattle.j39_part_laws.proofs.FlowDelays.{delays_no_later}
use Rattle.j39_part_laws.proofs.Loads.{ask_no_more}
use Rattle.j39_part_laws.proofs.Places.{value_at}
use Rattle.j39_part_laws.proofs.Shares.{sum-no-more}
use Rattle.j39_part_laws.proofs.Sublists.{sub_of_some}

-- ---- late flows

module _ (v w : WholeTime) (no_later : IsWholeNoLater v w) (limit : ℕ) where
  in_limit_by : (b : Bool) (o : Option ℕ) → w.each ≡ b → w.bits ≡ o → is_in_limit limit (if b then o else None) ≡ true
      → is_in_limit limit (time_of_each v) ≡ true
  in_limit_by false o each bits fits = absurd (false≢true fits)
  in_limit_by true None each bits fits = absurd (false≢true fits)
  in_limit_by true (Some n) each bits fits =
      let (m, is_m, less) = no_later.bits n bits in
      let low = leb-true n limit fits in
      ap (λ b. is_in_limit limit (if b then v.bits else None)) (no_later.each each) ∙ ap (is_in_limit limit) is_m ∙ le-leb m limit (omega (arith, low, less))

  in_limit_here : is_in_limit limit (time_of_each w) ≡ true → is_in_limit limit (time_of_each v) ≡ true
  in_limit_here = in_limit_by w.each w.bits refl refl

whole_late : (v w : WholeTime) → IsWholeNoLater v w → is_whole_late v ≡ true → is_whole_late w ≡ true
whole_late v w no_later late = go v.limit refl late
  where
    by : (l : ℕ) → not (is_in_limit l (time_of_each v)) ≡ true → not (is_in_limit l (time_of_each w)) ≡ true
    by l out = elim (cases_Bool (is_in_limit l (time_of_each w))) [
      | inr none ↦ ap not none
      | inl fits ↦ absurd (false≢true (sym (ap not (in_limit_here v w no_later l fits)) ∙ out))
    ]

    go : (o : Option ℕ) → v.limit ≡ o → option_map_or (λ l. not (is_in_limit l (time_of_each v))) o false ≡ true → is_whole_late w ≡ true
    go None is_o out = absurd (false≢true out)
    go (Some l) is_o out =
        ap (λ o. option_map_or (λ n. not (is_in_limit n (time_of_each w))) o false) (sym no_later.limit ∙ is_o) ∙ by l out

late_whole : (f : ℕ) (w : WholeTime) → is_whole_late w ≡ true → Contains (lateness f (Some (Whole w))) (LateFlow f)
late_whole f w late = subst (λ b. Contains (if b then LateFlow f ∷ [] else []) (LateFlow f)) (sym late) (itself (LateFlow f))

late_here : (f : ℕ) (v : WholeTime) (finding : LoadFinding) → Contains (lateness f (Some (Whole v))) finding → is_whole_late v ≡ true
late_here f v finding found = go (is_whole_late v) refl found
  where
    go : (b : Bool) → is_whole_late v ≡ b → Contains (if b then LateFlow f ∷ [] else []) finding → is_whole_late v ≡ true
    go true is_b reported = is_b
    go false is_b reported = absurd (none_of finding reported)

late_there : (f g : ℕ) (here there : Option Delay) → IsNoLater here there → (finding : LoadFinding) → Contains (lateness f here) finding
    → Contains (lateness g there) (LateFlow g)
late_there f g here None none finding found = absurd (none_of finding (subst (λ d. Contains (lateness f d) finding) none found))
late_there f g here (Some Late) no_later finding found = itself (LateFlow g)
late_there f g here (Some (Beyond n)) no_later finding found = itself (LateFlow g)
late_there f g here (Some (Within n)) (a, is_a, less) finding found = absurd (none_of finding (subst (λ d. Contains (lateness f d) finding) is_a found))
late_there f g here (Some (Long n)) is_n finding found = absurd (none_of finding (subst (λ d. Contains (lateness f d) finding) is_n found))
late_there f g here (Some (Whole w)) (v, is_v, no_later) finding found =
    late_whole g w (whole_late v w no_later (late_here f v finding (subst (λ d. Contains (lateness f d) finding) is_v found)))

-- ---- flows without a period

unpaced_there : (there : Option Delay) → IsNoLater None there → there ≡ None
unpaced_there None none = refl
unpaced_there (Some Late) (d, is_d) = absurd (none-some d is_d)
unpaced_there (Some (Within n)) (a, is_a, less) = absurd (none-some (Within a) is_a)
unpaced_there (Some (Beyond n)) (a, inl is_a, less) = absurd (none-some (Within a) is_a)
unpaced_there (Some (Beyond n)) (a, inr is_a, less) = absurd (none-some (Beyond a) is_a)
unpaced_there (Some (Long n)) is_n = absurd (none-some (Long n) is_n)
unpaced_there (Some (Whole w)) (v, is_v, no_later) = absurd (none-some (Whole v) is_v)

-- ---- the load

overload_there : (timing : Timing) (load : ℕ) → bits_of_second timing.bitrate < load → Contains (overload timing load) (Overload load)
overload_there timing load above = subst (λ b. Contains (if b then Overload load ∷ [] else []) (Overload load))
    (sym (lt-ltb (bits_of_second timing.bitrate) load above)) (itself (Overload load))

-- ---- claims

claiming_there : (at : Places) (part whole : Plan) → IsPartAt at part whole → claims_stated part ≤ claims_stated whole
claiming_there at part whole is =
    let claims : (UnitPlan → ℕ) = λ unit. cond unit.claims 1 0 in
    let units = sum-no-more IsSame claims claims (λ x y same. let equal = ap claims same in omega (arith, equal)) part.units.items whole.units.items
    (sub_of_some at.unit IsSame part.units.items whole.units.items is.units) in
    let strangers = is.strangers in
    omega (arith, units, strangers)

pub unplanned_there : (at : Places) (part whole : Plan) → IsPartAt at part whole → (timing : Timing) → unplanned_of part timing ≤ unplanned_of whole timing
unplanned_there at part whole is timing =
    let claims = claiming_there at part whole is in
    subst (λ live. (if part.live then max timing.unplanned (claims_stated part) else timing.unplanned)
    ≤ (if live then max timing.unplanned (claims_stated whole) else timing.unplanned)) is.live (either part.live claims)
  where
    either : (live : Bool) → claims_stated part ≤ claims_stated whole
        → (if live then max timing.unplanned (claims_stated part) else timing.unplanned)
        ≤ (if live then max timing.unplanned (claims_stated whole) else timing.unplanned)
    either true claims = omega (arith, claims)
    either false claims = omega arith

-- ---- all of them

module _ (at : Places) (part whole : Plan) (is : IsPartAt at part whole) (good : HasGoodNumbers whole) (timing : Timing) (unplanned : ℕ)
    (range : unplanned ≤ 1000)
    (busier : timing.unplanned ≤ unplanned) (reported stays : UnitPlan → Bool) (ds es : List (Option Delay)) (here : AsksOfBus part timing reported ds)
    (there : AsksOfBus whole (counting timing unplanned range) stays es) where
  abbrev busy : Timing
  busy = counting timing unplanned range

  abbrev load_here : ℕ
  load_here = total_load timing (asked_of timing part reported)

  abbrev load_there : ℕ
  load_there = total_load busy (asked_of busy whole stays)

  abbrev all_there : List LoadFinding
  all_there = all_findings whole busy load_there es

  -- the delay of the same flow in the whole
  pub delay_there : (f : ℕ) (d : Option Delay) → slice_get ds f ≡ Some d → (e : Option Delay) × (slice_get es (at.flow f) ≡ Some e) × IsNoLater d e
      × (f < length part.flows.items)
  delay_there f d at_f =
      let below = slice_get_within ds f d at_f in
      let count = here.waits.count in
      let flows = length-map part.flows.items (load_of_flow timing part reported) in
      let within : f < length part.flows.items = omega (arith, below, count, flows) in
      let (flow, is_flow) = value_at part.flows.items f within in
      let stands = is.flows.each f flow is_flow in
      let inside = slice_get_within whole.flows.items (at.flow f) stands.value stands.value_is in
      let count_there = there.waits.count in
      let flows_there = length-map whole.flows.items (load_of_flow busy whole stays) in
      let among : at.flow f < length es = omega (arith, inside, count_there, flows_there) in
      let is_d : slice_index_or ds f None ≡ d = get_or_from_slice_get ds f d None at_f in (
        slice_index_or es (at.flow f) None,
        slice_get-get_or es (at.flow f) None among,
        subst (λ x. IsNoLater x (slice_index_or es (at.flow f) None)) is_d
            (delays_no_later at part whole is good timing unplanned range busier stays reported there.standing here.standing f within
            (slice_index_or ds f None) (slice_index_or es (at.flow f) None) (here.waits.each f below) (there.waits.each (at.flow f) among)),
        within,
      )

  unpaced_found : (finding : LoadFinding) → Contains (lines_of_each without_period 0 ds) finding → IsFoundThere at part all_there finding
  unpaced_found finding found =
      let its = reported_at without_period 0 ds finding found in
      let (none, is_it) = of_unpaced (0 + its.k) its.value finding its.reported in
      let (e, at_e, no_later, inside) = delay_there its.k its.value its.value_is in
      let no_delay = unpaced_there e (subst (λ d. IsNoLater d e) none no_later) in
      let zero_there : 0 + at.flow its.k ≡ at.flow its.k = omega arith in
      let zero_here : 0 + its.k ≡ its.k = omega arith in
      let reported_there : Contains (without_period (0 + at.flow its.k) e) (NoPeriod (at.flow its.k)) =
      subst (λ x. Contains (without_period (0 + at.flow its.k) x) (NoPeriod (at.flow its.k))) (sym no_delay)
      (subst (λ n. Contains (NoPeriod n ∷ []) (NoPeriod (at.flow its.k))) (sym zero_there) (itself (NoPeriod (at.flow its.k)))) in
      subst (IsFoundThere at part all_there) (sym (is_it ∙ ap NoPeriod zero_here)) (
        inside,
        Contains-append_left (load_findings busy load_there es) (further_findings whole busy es) (NoPeriod (at.flow its.k))
            (Contains-append_left (lines_of_each without_period 0 es) (overload busy load_there ++ lines_of_each lateness 0 es) (NoPeriod (at.flow its.k))
            (line_reported without_period 0 es (at.flow its.k) e (NoPeriod (at.flow its.k)) at_e reported_there)),
      )

  overload_found : (finding : LoadFinding) → Contains (overload timing load_here) finding → IsFoundThere at part all_there finding
  overload_found finding found =
      let (above, is_it) = of_overload timing load_here finding found in
      let more = (ask_no_more at part whole is good timing stays reported there.standing here.standing unplanned range busier).load in
      subst (IsFoundThere at part all_there) (sym is_it) (
        load_there,
        more,
        Contains-append_left (load_findings busy load_there es) (further_findings whole busy es) (Overload load_there)
            (Contains-append_right (lines_of_each without_period 0 es) (overload busy load_there ++ lines_of_each lateness 0 es) (Overload load_there)
            (Contains-append_left (overload busy load_there) (lines_of_each lateness 0 es) (Overload load_there)
            (overload_there busy load_there (omega (arith, above, more))))),
      )

  late_found : (finding : LoadFinding) → Contains (lines_of_each lateness 0 ds) finding → IsFoundThere at part all_there finding
  late_found finding found =
      let its = reported_at lateness 0 ds finding found in
      let is_it = of_late (0 + its.k) its.value finding its.reported in
      let (e, at_e, no_later, inside) = delay_there its.k its.value its.value_is in
      let zero_there : at.flow its.k ≡ 0 + at.flow its.k = omega arith in
      let zero_here : 0 + its.k ≡ its.k = omega arith in
      let late = late_there (0 + its.k) (at.flow its.k) its.value e no_later finding its.reported in
      subst (IsFoundThere at part all_there) (sym (is_it ∙ ap LateFlow zero_here)) (
        inside,
        Contains-append_left (load_findings busy load_there es) (further_findings whole busy es) (LateFlow (at.flow its.k))
            (Contains-append_right (lines_of_each without_period 0 es) (overload busy load_there ++ lines_of_each lateness 0 es) (LateFlow (at.flow its.k))
            (Contains-append_right (overload busy load_there) (lines_of_each lateness 0 es) (LateFlow (at.flow its.k))
            (line_reported lateness 0 es (at.flow its.k) e (LateFlow (at.flow its.k)) at_e
            (subst (λ n. Contains (lateness n e) (LateFlow (at.flow its.k))) zero_there late)))),
      )

  asked_found : (finding : LoadFinding) → Contains (flows_asked_too_often part.requests.items part.flows.items) finding → IsFoundThere at part all_there finding
  asked_found finding found =
      let (f, flow, at_f, too_often, is_it) = of_asked part.requests.items part.flows.items finding found in
      let stands = is.flows.each f flow at_f in
      subst (IsFoundThere at part all_there) (sym is_it) (
        slice_get_within part.flows.items f flow at_f,
        Contains-append_right (load_findings busy load_there es) (further_findings whole busy es) (AskedTooOften (at.flow f))
            (Contains-append_right (old_needs busy whole.requests.items whole.flows.items es whole.needs.items)
            (flows_asked_too_often whole.requests.items whole.flows.items) (AskedTooOften (at.flow f))
            (asked_reported whole.requests.items whole.flows.items (at.flow f) stands.value stands.value_is
            (too_often_there at part whole is flow stands.value stands.meets too_often))),
      )

  found_there : (finding : LoadFinding) → Contains (all_findings part timing load_here ds) finding → IsFoundThere at part all_there finding
  found_there finding found =
      elim (Contains-append_cases (load_findings timing load_here ds) (further_findings part timing ds) finding found) [
        | inr further ↦ elim (Contains-append_cases (old_needs timing part.requests.items part.flows.items ds part.needs.items)
            (flows_asked_too_often part.requests.items part.flows.items) finding further) [
              | inl old ↦ let (d, is_it) = of_old timing part ds finding old in subst (IsFoundThere at part all_there) (sym is_it) tt
              | inr asked ↦ asked_found finding asked
            ]
        | inl others ↦ elim (Contains-append_cases (lines_of_each without_period 0 ds)
            (overload timing load_here ++ lines_of_each lateness 0 ds) finding others) [
              | inl unpaced ↦ unpaced_found finding unpaced
              | inr more ↦ elim (Contains-append_cases (overload timing load_here) (lines_of_each lateness 0 ds) finding more) [
                | inl too_much ↦ overload_found finding too_much
                | inr late ↦ late_found finding late
              ]
            ]
      ]

module _ (at : Places) (part whole : Plan) (is : IsPartAt at part whole) (good : HasGoodNumbers whole) (here there : List LoadFinding) where
  by_timing : (o : Option Timing) → AreLoadFindings part (option_map (with_claims part) o) here → AreLoadFindings whole (option_map (with_claims whole) o) there
      → (finding : LoadFinding) → Contains here finding → IsFoundThere at part there finding
  by_timing None none_here none_there finding found = absurd (none_of finding (subst (λ l. Contains l finding) none_here found))
  by_timing (Some timing) (reported, ds, asks, is_here) (stays, es, asks_there, is_there) finding found =
      subst (λ l. IsFoundThere at part l finding) (sym is_there)
      (found_there at part whole is good (with_claims part timing) (unplanned_of whole timing) (few_unplanned whole timing)
      (unplanned_there at part whole is timing)
      reported stays ds es asks asks_there finding (subst (λ l. Contains l finding) is_here found))

pub are_found_there : (at : Places) (part whole : Plan) → IsPartAt at part whole → HasGoodNumbers whole → AreFoundThere at part whole
unfolding timing_of
are_found_there at part whole is good here there are are_there =
    by_timing at part whole is good here there part.timing are
    (subst (λ o. AreLoadFindings whole (option_map (with_claims whole) o) there) (sym is.timing) are_there)
