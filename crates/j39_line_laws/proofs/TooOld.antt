-- What is too old in a variant is too old in one that covers it for the need.
use Rattle.std.proofs.Common.{◌≡◌, ℕ, ◌+◌, Bool, true, false, not, if◌then◌else◌, List, [], ◌∷◌, ◌++◌, length, Contains, Option, Some, None, is_some}
use Rattle.std.proofs.Common.{option_map, refl, sym, ◌∙◌, ap, subst, inl, inr, arith}
use Rattle.std.specs.List.{list_any, range_with_len, slice_get}
use Rattle.std.specs.Option.{option_map_or}
use Rattle.std.proofs.lemmas.Bool.{false≢true}
use Rattle.std.proofs.lemmas.List.Elements.{Contains-append_cases, Contains-append_left, Contains-append_right}
use Rattle.std.proofs.lemmas.Option.{same_Some}
use Rattle.j39_findings.specs.Found.{is_unmet}
use Rattle.j39_network.specs.Serving.{meets}
use Rattle.j39_network.specs.declared.plan.Plan.{Plan}
use Rattle.j39_network.specs.declared.plan.need_plan.NeedPlan.{NeedPlan}
use Rattle.j39_network.specs.declared.plan.timing.Timing.{Timing}
use Rattle.j39_load.specs.Ages.{is_too_old, old_needs, oldness}
use Rattle.j39_load.specs.Asked.{asked_of, total_load}
use Rattle.j39_load.specs.BusTimes.{timing_of, with_claims}
use Rattle.j39_load.specs.LineLists.{lines_of_each}
use Rattle.j39_load.specs.LiveClaims.{unplanned_of}
use Rattle.j39_load.specs.LoadFindings.{all_findings, AreLoadFindings, flows_asked_too_often, further_findings, lateness, load_findings, overload}
use Rattle.j39_load.specs.LoadFindings.{without_period}
use Rattle.j39_load.proofs.ReportedLines.{of_asked}
use Rattle.j39_load.specs.declared.findings.load_finding.LoadFinding.{LoadFinding}
use Rattle.j39_load.specs.declared.findings.load_finding.LoadFinding.TheVariants.{NoPeriod, Overload, LateFlow, NeedTooOld, AskedTooOften}
use Rattle.j39_load.specs.declared.waits.delay.Delay.{Delay}
use Rattle.j39_load.specs.inside.FewClaims.{few_unplanned}
use Rattle.j39_variants.specs.declared.line.ProductLine.{ProductLine}
use Rattle.j39_variants.specs.VariantPlans.{flags, group_places, IsVariantPlan, moved_flow, unit_places}
use Rattle.j39_variants.specs.Variants.{IsVariant}
use Rattle.j39_line_findings.specs.FullVariants.{alternative_at, alternatives_of}
use Rattle.j39_line_findings.specs.MissedNeeds.{is_need_asked_for}
use Rattle.j39_line_findings.specs.There.{IsPresent}
use Rattle.j39_line_findings.specs.declared.there.Present.{Present}
use Rattle.j39_part_laws.specs.PartLoads.{HasGoodNumbers}
use Rattle.j39_part_laws.specs.PlanParts.{Places}
use Rattle.j39_part_laws.proofs.LoadFindings.{itself, line_reported, none_of, of_late, of_overload, of_unpaced, one_of, reported_at, unplanned_there}
use Rattle.j39_line_laws.specs.Covering.{IsCoveredBy, IsCoveredFor}
use Rattle.j39_line_findings.proofs.Tests.{any_at, at_any}
use Rattle.j39_line_laws.proofs.Full.{covered_of}
use Rattle.j39_line_laws.proofs.Parts.{at, is_part_at}
use Rattle.j39_line_laws.proofs.Picking.{kept, some_picked}
use Rattle.j39_line_laws.proofs.PlacesInFile.{flow_flags_fewer}
use Rattle.j39_line_laws.proofs.Ages.{ComeFromPart, too_old_there}
use Rattle.j39_line_laws.proofs.NeedsInPlan.{move_need}
use Rattle.j39_line_laws.proofs.Origins.{one_place_each}
use Rattle.j39_line_laws.proofs.Sources.{in_plan, meets_back, meets_too, of_file}

-- ---- what is reported of a need

pub record IsOld (timing : Timing) (plan : Plan) (delays : List (Option Delay)) (k : ℕ) : Type 0 where
  pub need : NeedPlan
  pub at : slice_get plan.needs.items k ≡ Some need
  pub limit : ℕ
  pub within : need.within ≡ Some limit
  pub old : is_too_old timing plan.requests.items plan.flows.items delays need limit ≡ true

same_old : (i j : ℕ) → NeedTooOld i ≡ NeedTooOld j → i ≡ j
same_old i j is = cc

module _ (timing : Timing) (plan : Plan) (delays : List (Option Delay)) where
  abbrev reports : ℕ → NeedPlan → List LoadFinding
  reports = oldness timing plan.requests.items plan.flows.items delays

  old_at : (k place : ℕ) (need : NeedPlan) → slice_get plan.needs.items place ≡ Some need → Contains (reports place need) (NeedTooOld k)
      → IsOld timing plan delays k
  old_at k place need at_place reported = go need.within refl reported
    where
      by : (limit : ℕ) → need.within ≡ Some limit → (b : Bool) → is_too_old timing plan.requests.items plan.flows.items delays need limit ≡ b
          → Contains (if b then NeedTooOld place ∷ [] else []) (NeedTooOld k) → IsOld timing plan delays k
      by limit within false out none = absurd (none_of (NeedTooOld k) none)
      by limit within true old one =
          let same = same_old place k (one_of (NeedTooOld place) (NeedTooOld k) one) in
          record { need = need; at = ap (slice_get plan.needs.items) (sym same) ∙ at_place; limit = limit; within = within; old = old }

      go : (o : Option ℕ) → need.within ≡ o
          → Contains (option_map_or (λ limit. if is_too_old timing plan.requests.items plan.flows.items delays need limit then NeedTooOld place ∷ []
          else []) o []) (NeedTooOld k)
          → IsOld timing plan delays k
      go None none found = absurd (none_of (NeedTooOld k) found)
      go (Some limit) within found = by limit within (is_too_old timing plan.requests.items plan.flows.items delays need limit) refl found

  is_old : (load k : ℕ) → Contains (all_findings plan timing load delays) (NeedTooOld k) → IsOld timing plan delays k
  is_old load k found =
      elim (Contains-append_cases (load_findings timing load delays) (further_findings plan timing delays) (NeedTooOld k) found) [
        | inr further ↦ elim (Contains-append_cases (old_needs timing plan.requests.items plan.flows.items delays plan.needs.items)
            (flows_asked_too_often plan.requests.items plan.flows.items) (NeedTooOld k) further) [
              | inl old ↦
                  let its = reported_at reports 0 plan.needs.items (NeedTooOld k) old in
                  old_at k (0 + its.k) its.value (ap (slice_get plan.needs.items) (let e : 0 + its.k ≡ its.k = omega arith in e) ∙ its.value_is) its.reported
              | inr asked ↦ absurd (let its = of_asked plan.requests.items plan.flows.items (NeedTooOld k) asked in not_asked its.0 k its.4)
            ]
        | inl others ↦ elim (Contains-append_cases (lines_of_each without_period 0 delays) (overload timing load ++ lines_of_each lateness 0 delays)
            (NeedTooOld k) others) [
              | inl unpaced ↦
                  let its = reported_at without_period 0 delays (NeedTooOld k) unpaced in
                  absurd (no_period (0 + its.k) k (of_unpaced (0 + its.k) its.value (NeedTooOld k) its.reported).1)
              | inr more ↦ elim (Contains-append_cases (overload timing load) (lines_of_each lateness 0 delays) (NeedTooOld k) more) [
                | inl too_much ↦ absurd (no_load load k (of_overload timing load (NeedTooOld k) too_much).1)
                | inr late ↦
                    let its = reported_at lateness 0 delays (NeedTooOld k) late in
                    absurd (not_late (0 + its.k) k (of_late (0 + its.k) its.value (NeedTooOld k) its.reported))
              ]
            ]
      ]
    where
      no_period : (i j : ℕ) → NeedTooOld j ≡ NoPeriod i → ⊥
      no_period i j is = cc

      not_asked : (i j : ℕ) → NeedTooOld j ≡ AskedTooOften i → ⊥
      not_asked i j is = cc

      no_load : (i j : ℕ) → NeedTooOld j ≡ Overload i → ⊥
      no_load i j is = cc

      not_late : (i j : ℕ) → NeedTooOld j ≡ LateFlow i → ⊥
      not_late i j is = cc

  reported_old : (load k : ℕ) → IsOld timing plan delays k → Contains (all_findings plan timing load delays) (NeedTooOld k)
  reported_old load k its =
      Contains-append_right (load_findings timing load delays) (further_findings plan timing delays) (NeedTooOld k)
      (Contains-append_left (old_needs timing plan.requests.items plan.flows.items delays plan.needs.items)
      (flows_asked_too_often plan.requests.items plan.flows.items) (NeedTooOld k)
      (line_reported reports 0 plan.needs.items k its.need (NeedTooOld k) its.at
      (subst (λ o. Contains (option_map_or (λ limit. if is_too_old timing plan.requests.items plan.flows.items delays its.need limit then NeedTooOld (0 + k)
      ∷ [] else []) o []) (NeedTooOld k))
      (sym its.within) (subst (λ b. Contains (if b then NeedTooOld (0 + k) ∷ [] else []) (NeedTooOld k)) (sym its.old)
      (subst (λ n. Contains (NeedTooOld n ∷ []) (NeedTooOld k)) (let e : k ≡ 0 + k = omega arith in e) (itself (NeedTooOld k)))))))

-- a need of which it is reported asks for an age
pub old_need : (plan : Plan) (others : List LoadFinding) → AreLoadFindings plan (timing_of plan) others → (k : ℕ) → Contains others (NeedTooOld k)
    → (need : NeedPlan) × (slice_get plan.needs.items k ≡ Some need) × (is_some need.within ≡ true)
unfolding timing_of
old_need plan others are k found = go plan.timing are
  where
    go : (o : Option Timing) → AreLoadFindings plan (option_map (with_claims plan) o) others
        → (need : NeedPlan) × (slice_get plan.needs.items k ≡ Some need) × (is_some need.within ≡ true)
    go None none = absurd (none_of (NeedTooOld k) (subst (λ l. Contains l (NeedTooOld k)) none found))
    go (Some timing) (reported, ds, asks, is) =
        let its = is_old (with_claims plan timing) plan ds (total_load (with_claims plan timing) (asked_of (with_claims plan timing) plan reported)) k
        (subst (λ l. Contains l (NeedTooOld k)) is found) in
        (its.need, its.at, ap is_some its.within)

-- ---- in both variants

pub some_of : {X : Type 0} (test : X → Bool) (xs : List X) → not (not (list_any test xs)) ≡ true → list_any test xs ≡ true
some_of test xs some = go (list_any test xs) some
  where
    go : (b : Bool) → not (not b) ≡ true → b ≡ true
    go true is = refl
    go false none = absurd (false≢true none)

pub covered_by : (line : ProductLine) (d : ℕ) (v w : List ℕ) → IsCoveredFor line (Some d) v w → IsCoveredBy line v w
covered_by line d v w covered c p at_p =
    let (q, at_q, covers) = covered c p at_p in
    (q, at_q, covered_of line (alternatives_of line) (Some d) (alternative_at c p) (alternative_at c q) covers)

module _ (line : ProductLine) (v w : List ℕ) (is_v : IsVariant line.choices.items v) (is_w : IsVariant line.choices.items w) (d : ℕ)
    (covered : IsCoveredFor line (Some d) v w) (asked : is_need_asked_for line w d ≡ true) (these those : Present) (are_these : IsPresent line v these)
    (are_those : IsPresent line w those) (part whole : Plan) (here : IsVariantPlan line v part) (there : IsVariantPlan line w whole) (need : NeedPlan)
    (at_d : slice_get line.plan.needs.items d ≡ Some need) (e f : NeedPlan) (made : move_need line v need ≡ Some e)
    (made_there : move_need line w need ≡ Some f) where
  abbrev by : IsCoveredBy line v w
  by = covered_by line d v w covered

  abbrev pub p : Places
  p = at line v w by

  -- each flow that meets it there is one that meets it here
  pub come : ComeFromPart p part whole e f
  come j y at_j met =
      let (k, meets_there, place_there) = of_file line w whole there need f made_there j y at_j met in
      let its = in_plan line v part here need e made k (meets_back line v w is_v is_w d covered asked need at_d k meets_there) in
      let n = length line.plan.flows.items in
      let here_flags = kept (moved_flow (unit_places line v) (group_places line v)) (flags v line.lists.flows.items) line.plan.flows.items in
      let there_flags = kept (moved_flow (unit_places line w) (group_places line w)) (flags w line.lists.flows.items) line.plan.flows.items in
      let fewer = flow_flags_fewer line v w by part here these those are_these are_those in
      let stands = (some_picked here_flags there_flags (range_with_len 0 n) fewer).each its.i k its.place in
      (its.i, its.flow, its.at, its.met, one_place_each there_flags 0 n (p.flow its.i) j k (stands.value_is ∙ ap Some (sym stands.meets)) place_there)

  pub met_there : not (is_unmet part.requests.items part.flows.items e) ≡ true → not (is_unmet whole.requests.items whole.flows.items f) ≡ true
  met_there some =
      let one = any_at (meets part.requests.items e) part.flows.items (some_of (meets part.requests.items e) part.flows.items some) in
      let (k, meets_here, place) = of_file line v part here need e made one.i one.value one.value_is one.passes in
      let its = in_plan line w whole there need f made_there k (meets_too line v w by need k meets_here) in
      ap (λ b. not (not b)) (at_any (meets whole.requests.items f) whole.flows.items its.i its.flow its.at its.met)

  pub met_here : not (is_unmet whole.requests.items whole.flows.items f) ≡ true → not (is_unmet part.requests.items part.flows.items e) ≡ true
  met_here some =
      let one = any_at (meets whole.requests.items f) whole.flows.items (some_of (meets whole.requests.items f) whole.flows.items some) in
      let (i, x, at_x, met, same) = come one.i one.value one.value_is one.passes in
      ap (λ b. not (not b)) (at_any (meets part.requests.items e) part.flows.items i x at_x met)

  module _ (good : HasGoodNumbers whole) (k l : ℕ) (at_k : slice_get part.needs.items k ≡ Some e) (at_l : slice_get whole.needs.items l ≡ Some f)
      (within : f.within ≡ e.within)
      (others there_others : List LoadFinding) (found : Contains others (NeedTooOld k)) where
    by_timing : (o : Option Timing) → AreLoadFindings part (option_map (with_claims part) o) others
        → AreLoadFindings whole (option_map (with_claims whole) o) there_others → Contains there_others (NeedTooOld l)
    by_timing None none_here none_there = absurd (none_of (NeedTooOld k) (subst (λ l. Contains l (NeedTooOld k)) none_here found))
    by_timing (Some timing) (reported, ds, asks, is_here) (stays, es, asks_there, is_there) =
        let its = is_old (with_claims part timing) part ds (total_load (with_claims part timing) (asked_of (with_claims part timing) part reported)) k
        (subst (λ l. Contains l (NeedTooOld k)) is_here found) in
        let same : its.need ≡ e = same_Some its.need e (sym its.at ∙ at_k) in
        let is_part = is_part_at line v w by part whole here there in
        let old = too_old_there p part whole is_part good (with_claims part timing) (unplanned_of whole timing) (few_unplanned whole timing)
        (unplanned_there p part whole is_part timing) reported stays ds es asks asks_there e f come its.limit met_there
        (subst (λ n. is_too_old (with_claims part timing) part.requests.items part.flows.items ds n its.limit ≡ true) same its.old) in
        subst (λ xs. Contains xs (NeedTooOld l)) (sym is_there)
        (reported_old (with_claims whole timing) whole es (total_load (with_claims whole timing) (asked_of (with_claims whole timing) whole stays)) l
        (record {
          need = f;
          at = at_l;
          limit = its.limit;
          within = within ∙ sym (ap (λ (n : NeedPlan). n.within) same) ∙ its.within;
          old = old;
        }))

    pub old_there : AreLoadFindings part (timing_of part) others → AreLoadFindings whole (timing_of whole) there_others → Contains there_others (NeedTooOld l)
    unfolding timing_of
    old_there are are_there =
        by_timing part.timing are
        (subst (λ o. AreLoadFindings whole (option_map (with_claims whole) o) there_others)
        (sym (is_part_at line v w by part whole here there).timing) are_there)
