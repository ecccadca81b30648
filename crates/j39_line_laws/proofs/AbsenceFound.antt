-- What comes by absence is found exactly where the variant meets one of its conditions.
use Rattle.std.proofs.Common.{◌≡◌, ◌⊎◌, ℕ, zero, suc, ◌+◌, ◌<◌, Bool, true, false, not, ◌&&◌, cond, List, [], ◌∷◌, length}
use Rattle.std.proofs.Common.{filter, Contains, ◌↔◌, Decides, if◌then◌else◌, Option, Some, None, refl, sym, ◌∙◌, ap, subst, inl, inr, arith}
use Rattle.std.specs.List.{range_with_len, slice_get}
use Rattle.std.specs.Option.{option_map_or}
use Rattle.std.proofs.lemmas.Bool.{and_from, and_parts, false≢true}
use Rattle.std.proofs.lemmas.Option.{slice_get_within}
use Rattle.j39_findings.proofs.Deciding.{Decides-goes_unanswered, Decides-goes_unheard, Decides-is_answered_astray, Decides-is_private_unsent, Decides-is_unmet}
use Rattle.j39_findings.specs.Findings.{Holds}
use Rattle.j39_findings.specs.Found.{goes_unanswered, goes_unheard, is_answered_astray, is_private_unsent, is_unmet}
use Rattle.j39_findings.specs.declared.checking.finding.Finding.{Finding}
use Rattle.j39_findings.specs.declared.checking.finding.Finding.TheVariants.{PrivateUnsent, NeedUnmet, RequestUnanswered}
use Rattle.j39_findings.specs.declared.checking.finding.Finding.TheVariants.{RequestUnheard, AnswerAstray}
use Rattle.j39_network.specs.Serving.{is_to_one}
use Rattle.j39_network.specs.declared.plan.Plan.{Plan}
use Rattle.j39_network.specs.declared.plan.need_plan.NeedPlan.{NeedPlan}
use Rattle.j39_part_laws.specs.ByAbsence.{comes_by_absence}
use Rattle.j39_search.specs.ListPlaces.{ValueAt}
use Rattle.j39_variants.specs.declared.line.ProductLine.{ProductLine}
use Rattle.j39_variants.specs.VariantPlans.{group_places, moved_need, unit_places}
use Rattle.j39_line_findings.specs.Conditions.{astray_conditions, Condition, conditions_of, meets_any, unmet_condition, unsent_condition, unserved_condition}
use Rattle.j39_line_findings.specs.InFile.{finding_in_file}
use Rattle.j39_line_findings.specs.LineFound.{AreVariantFindings, IsFound}
use Rattle.j39_line_findings.specs.MissedNeeds.{is_in_at, is_need_asked_for, is_need_missed, is_source_there, is_unit_there}
use Rattle.j39_line_findings.specs.There.{is_need_there, missed_needs, place_in_file}
use Rattle.j39_line_findings.specs.declared.line_finding.LineFinding.{LineFinding}
use Rattle.j39_line_findings.specs.declared.line_finding.LineFinding.TheVariants.{OfPlan}
use Rattle.j39_line_findings.specs.declared.there.Present.{Present}
use Rattle.j39_line_laws.proofs.FoundOfCovering.{in_plan, of_missed_reported, of_plan_reported}
use Rattle.j39_line_laws.specs.ByAbsenceExactly.{AbsenceIsFoundWhereMet, IsFoundWhereMet}
use Rattle.j39_line_laws.proofs.AbsenceHere.{astray_here, astray_there, source_there, unanswered_here, unanswered_there, unheard_here, unheard_there}
use Rattle.j39_line_laws.proofs.AbsenceHere.{unmet_here, unsent_here, unsent_there}
use Rattle.j39_line_laws.proofs.InVariant.{are_groups, are_needs, are_requests}
use Rattle.j39_line_laws.proofs.Lacking.{is_some_source, unmet_met}
use Rattle.j39_line_laws.proofs.PickedPlaces.{AreThose}

-- ---- places that pass a test

placed_from : (test : ℕ → Bool) (a n d : ℕ) → Contains (filter test (range_with_len a n)) d → test d ≡ true
placed_from test a zero d (k, below, is) = absurd (omega (arith, below))
placed_from test a (suc n) d among = by (test a) refl (placed_from test (a + 1) n d) among
  where
    by : (t : Bool) → test a ≡ t → (Contains (filter test (range_with_len (a + 1) n)) d → test d ≡ true)
        → Contains (cond t (a ∷ filter test (range_with_len (a + 1) n)) (filter test (range_with_len (a + 1) n))) d → test d ≡ true
    by true is_t rest (zero, below, is) = ap test (sym is) ∙ is_t
    by true is_t rest (suc k, below, is) = rest (k, omega (arith, below), is)
    by false is_t rest later = rest later

first_in : (t : Bool) (a d : ℕ) (ds : List ℕ) → t ≡ true → a ≡ d → Contains (cond t (a ∷ ds) ds) d
first_in true a d ds passes same = (0, omega arith, same)
first_in false a d ds passes same = absurd (false≢true passes)

later_in : (t : Bool) (a d : ℕ) (ds : List ℕ) → Contains ds d → Contains (cond t (a ∷ ds) ds) d
later_in true a d ds (k, inside, is) = (suc k, omega (arith, inside), is)
later_in false a d ds among = among

from_placed : (test : ℕ → Bool) (a n k : ℕ) → k < n → test (a + k) ≡ true → Contains (filter test (range_with_len a n)) (a + k)
from_placed test a zero k below passes = absurd (omega (arith, below))
from_placed test a (suc n) zero below passes =
    let here : a ≡ a + 0 = omega arith in
    first_in (test a) a (a + 0) (filter test (range_with_len (a + 1) n)) (ap test here ∙ passes) here
from_placed test a (suc n) (suc k) below passes =
    let same : a + 1 + k ≡ a + suc k = omega arith in
    later_in (test a) a (a + suc k) (filter test (range_with_len (a + 1) n)) (subst (Contains (filter test (range_with_len (a + 1) n))) same
    (from_placed test (a + 1) n k (omega (arith, below)) (ap test same ∙ passes)))

-- ---- what is found at a place, and what is met there

abbrev PassesAt : {Y : Type 0} → (Y → Bool) → List Y → List ℕ → ℕ → Type 0
PassesAt passes ys at k = (i : ℕ) × (place_in_file at i ≡ k) × ValueAt (λ y. passes y ≡ true) ys i

module _ (line : ProductLine) (v : List ℕ) {X Y : Type 0} (R : X → Y → Type 0) (test : ℕ → Bool) (xs : List X) (ys : List Y) (at : List ℕ)
    (are : AreThose R test xs ys at) (conditions : ℕ → X → List Condition) (passes : Y → Bool)
    (same : (k : ℕ) (x : X) (y : Y) → R x y → test k ≡ true → meets_any line v (conditions k x) ≡ passes y) where
  met_of : (k : ℕ) → PassesAt passes ys at k → meets_any line v (option_map_or (conditions k) (slice_get xs k) []) ≡ true
  met_of k (i, placed, its) =
      let came = are.from i its.value its.value_is in
      subst (λ n. meets_any line v (option_map_or (conditions n) (slice_get xs n) []) ≡ true) (sym came.place_is ∙ placed)
      (ap (λ o. meets_any line v
      (option_map_or (conditions came.k) o [])) came.value_is ∙ same came.k came.value its.value came.comes came.is_there ∙ its.meets)

  of_met : ((k : ℕ) (x : X) → meets_any line v (conditions k x) ≡ true → test k ≡ true) → (k : ℕ)
      → meets_any line v (option_map_or (conditions k) (slice_get xs k) []) ≡ true → PassesAt passes ys at k
  of_met there k met = by (slice_get xs k) refl met
    where
      by : (o : Option X) → slice_get xs k ≡ o → meets_any line v (option_map_or (conditions k) o []) ≡ true → PassesAt passes ys at k
      by None is_o none = absurd (false≢true none)
      by (Some x) is_o some =
          let here = there k x some in
          let goes = are.into k x is_o here in (
            goes.i,
            goes.place_is,
            record { value = goes.value; value_is = goes.value_is; meets = sym (same k x goes.value goes.comes here) ∙ some },
          )

  where_met : (findings : List LineFinding) (make : ℕ → Finding) → ((k : ℕ) → IsFound findings (OfPlan (make k)) → PassesAt passes ys at k)
      → ((i : ℕ) → ValueAt (λ y. passes y ≡ true) ys i → IsFound findings (OfPlan (make (place_in_file at i))))
      → ((k : ℕ) (x : X) → meets_any line v (conditions k x) ≡ true → test k ≡ true) → (k : ℕ)
      → IsFound findings (OfPlan (make k)) ↔ (meets_any line v (option_map_or (conditions k) (slice_get xs k) []) ≡ true)
  where_met findings make reported report there k = (
    λ one. met_of k (reported k one),
    λ met. let (i, placed, its) = of_met there k met in subst (λ n. IsFound findings (OfPlan (make n))) placed (report i its),
  )

-- ---- of a plan, at places in the file

-- what holds of the plan where this is reported
abbrev IsReported : Plan → Present → Finding → Type 0
IsReported plan there (PrivateUnsent g) = PassesAt (is_private_unsent plan.groups.items plan.flows.items) plan.groups.items there.groups.items g
IsReported plan there (NeedUnmet d) = PassesAt (is_unmet plan.requests.items plan.flows.items) plan.needs.items there.needs.items d
IsReported plan there (RequestUnanswered r) = PassesAt (goes_unanswered plan.flows.items) plan.requests.items there.requests.items r
IsReported plan there (RequestUnheard r) = PassesAt (goes_unheard plan.flows.items) plan.requests.items there.requests.items r
IsReported plan there (AnswerAstray r) = PassesAt (is_answered_astray plan.groups.items plan.flows.items) plan.requests.items there.requests.items r
IsReported plan there _ = Unit {0}

decided : {Y : Type 0} (test : Y → Bool) (P : Y → Type 0) → ((y : Y) → Decides (test y) (P y)) → (ys : List Y) (i : ℕ) → ValueAt P ys i
    → ValueAt (λ y. test y ≡ true) ys i
decided test P decides ys i at = record { value = at.value; value_is = at.value_is; meets = (decides at.value).1 at.meets }

holding : {Y : Type 0} (test : Y → Bool) (P : Y → Type 0) → ((y : Y) → Decides (test y) (P y)) → (ys : List Y) (i : ℕ) → ValueAt (λ y. test y ≡ true) ys i
    → ValueAt P ys i
holding test P decides ys i at = record { value = at.value; value_is = at.value_is; meets = (decides at.value).0 at.meets }

reported_of : (plan : Plan) (there : Present) (finding : Finding) → Holds plan finding → IsReported plan there (finding_in_file there finding)
reported_of plan there (PrivateUnsent g) holds =
    (g, refl, decided _ _ (Decides-is_private_unsent plan.groups.items plan.flows.items) plan.groups.items g holds)
reported_of plan there (NeedUnmet d) holds = (d, refl, decided _ _ (Decides-is_unmet plan.requests.items plan.flows.items) plan.needs.items d holds)
reported_of plan there (RequestUnanswered r) holds = (r, refl, decided _ _ (Decides-goes_unanswered plan.flows.items) plan.requests.items r holds)
reported_of plan there (RequestUnheard r) holds = (r, refl, decided _ _ (Decides-goes_unheard plan.flows.items) plan.requests.items r holds)
reported_of plan there (AnswerAstray r) holds =
    (r, refl, decided _ _ (Decides-is_answered_astray plan.groups.items plan.flows.items) plan.requests.items r holds)
reported_of plan there _ holds = tt

module _ (line : ProductLine) (v : List ℕ) (findings : List LineFinding) (of : AreVariantFindings line v findings) where
  abbrev plan : Plan
  plan = of.plan

  abbrev there : Present
  there = of.there

  -- reported of the plan, or missed
  abbrev IsMissed : Finding → Type 0
  IsMissed finding = (d : ℕ) × Contains (missed_needs line v) d × (NeedUnmet d ≡ finding)

  reported : (finding : Finding) → IsFound findings (OfPlan finding) → IsReported plan there finding ⊎ IsMissed finding
  reported finding one = elim (in_plan line v findings of finding one) [
    | inl (x, holds, is) ↦ inl (subst (IsReported plan there) is (reported_of plan there x holds))
    | inr missed ↦ inr missed
  ]

  -- no other finding is missed
  reported_only : (finding : Finding) → ((d : ℕ) → NeedUnmet d ≡ finding → ⊥) → IsFound findings (OfPlan finding) → IsReported plan there finding
  reported_only finding other one = elim (reported finding one) [
    | inl here ↦ here
    | inr (d, among, is) ↦ absurd (other d is)
  ]

  report : (finding : Finding) → Holds plan finding → IsFound findings (OfPlan (finding_in_file there finding))
  report = of_plan_reported line v findings of

  -- ---- groups and requests

  unsent_at : (g : ℕ) → IsFoundWhereMet line v findings (OfPlan (PrivateUnsent g))
  unsent_at = where_met line v _ _ _ _ _ (are_groups line v plan of.is_plan there of.is_there) (unsent_condition line)
      (is_private_unsent plan.groups.items plan.flows.items) (unsent_here line v plan of.is_plan there of.is_there) findings PrivateUnsent
      (λ k. reported_only (PrivateUnsent k) (λ d is. cc))
      (λ i its. report (PrivateUnsent i) (holding _ _ (Decides-is_private_unsent plan.groups.items plan.flows.items) plan.groups.items i its))
      (unsent_there line v)

  unanswered_at : (r : ℕ) → IsFoundWhereMet line v findings (OfPlan (RequestUnanswered r))
  unanswered_at = where_met line v _ _ _ _ _ (are_requests line v plan of.is_plan there of.is_there)
      (λ k request. if is_to_one request.to then unserved_condition line k request else []) (goes_unanswered plan.flows.items)
      (unanswered_here line v plan of.is_plan there of.is_there) findings RequestUnanswered
      (λ k. reported_only (RequestUnanswered k) (λ d is. cc))
      (λ i its. report (RequestUnanswered i) (holding _ _ (Decides-goes_unanswered plan.flows.items) plan.requests.items i its)) (unanswered_there line v)

  unheard_at : (r : ℕ) → IsFoundWhereMet line v findings (OfPlan (RequestUnheard r))
  unheard_at = where_met line v _ _ _ _ _ (are_requests line v plan of.is_plan there of.is_there)
      (λ k request. if is_to_one request.to then [] else unserved_condition line k request) (goes_unheard plan.flows.items)
      (unheard_here line v plan of.is_plan there of.is_there) findings RequestUnheard
      (λ k. reported_only (RequestUnheard k) (λ d is. cc))
      (λ i its. report (RequestUnheard i) (holding _ _ (Decides-goes_unheard plan.flows.items) plan.requests.items i its)) (unheard_there line v)

  astray_at : (r : ℕ) → IsFoundWhereMet line v findings (OfPlan (AnswerAstray r))
  astray_at = where_met line v _ _ _ _ _ (are_requests line v plan of.is_plan there of.is_there) (astray_conditions line)
      (is_answered_astray plan.groups.items plan.flows.items) (astray_here line v plan of.is_plan there of.is_there) findings AnswerAstray
      (λ k. reported_only (AnswerAstray k) (λ d is. cc))
      (λ i its. report (AnswerAstray i) (holding _ _ (Decides-is_answered_astray plan.groups.items plan.flows.items) plan.requests.items i its))
      (astray_there line v)

  -- ---- needs

  abbrev IsMoved : NeedPlan → NeedPlan → Type 0
  IsMoved x y = moved_need (unit_places line v) (group_places line v) x ≡ Some y

  unmet_same : (k : ℕ) (x y : NeedPlan) → IsMoved x y → is_need_there line v k ≡ true
      → meets_any line v (unmet_condition line k x) ≡ is_unmet plan.requests.items plan.flows.items y
  unmet_same k x y moved here =
      unmet_here line v plan of.is_plan there of.is_there x y moved k (and_parts (is_need_asked_for line v k) (is_source_there line v k) here).0

  -- a need that is asked for and met by nothing is in the plan, or it is missed
  unmet_found : (d : ℕ) (need : NeedPlan) → slice_get line.plan.needs.items d ≡ Some need → meets_any line v (unmet_condition line d need) ≡ true
      → IsFound findings (OfPlan (NeedUnmet d))
  unmet_found d need at_d met = by (is_source_there line v d) refl
    where
      asked : is_need_asked_for line v d ≡ true
      asked = (and_parts (is_need_asked_for line v d) (not (is_some_source line v need)) (sym (unmet_met line v d need) ∙ met)).0

      by : (b : Bool) → is_source_there line v d ≡ b → IsFound findings (OfPlan (NeedUnmet d))
      by true sourced =
          let here = and_from (is_need_asked_for line v d) (is_source_there line v d) asked sourced in
          let goes = (are_needs line v plan of.is_plan there of.is_there).into d need at_d here in
          subst (λ n. IsFound findings (OfPlan (NeedUnmet n))) goes.place_is
          (report (NeedUnmet goes.i) (holding _ _ (Decides-is_unmet plan.requests.items plan.flows.items) plan.needs.items goes.i
          (record { value = goes.value; value_is = goes.value_is; meets = sym (unmet_same d need goes.value goes.comes here) ∙ met })))
      by false away =
          let is_missed : is_need_missed line v d ≡ true = and_from (is_need_asked_for line v d) (not (is_source_there line v d)) asked (ap not away) in
          let among = from_placed (is_need_missed line v) 0 (length line.plan.needs.items) d (slice_get_within line.plan.needs.items d need at_d)
          (ap (is_need_missed line v) (let e : 0 + d ≡ d = omega arith in e) ∙ is_missed) in
          of_missed_reported line v findings of d (subst (Contains (missed_needs line v)) (let e : 0 + d ≡ d = omega arith in e) among)

  missed_met : (d : ℕ) → is_need_missed line v d ≡ true → meets_any line v (conditions_of line (OfPlan (NeedUnmet d))) ≡ true
  missed_met d missed_is = by (slice_get line.plan.needs.items d) refl
    where
      asked : is_need_asked_for line v d ≡ true
      asked = (and_parts (is_need_asked_for line v d) (not (is_source_there line v d)) missed_is).0

      away : not (is_source_there line v d) ≡ true
      away = (and_parts (is_need_asked_for line v d) (not (is_source_there line v d)) missed_is).1

      unsourced : (need : NeedPlan) → slice_get line.plan.needs.items d ≡ Some need → (b : Bool) → is_some_source line v need ≡ b → not b ≡ true
      unsourced need at_d false is_b = refl
      unsourced need at_d true is_b = absurd (false≢true (sym (ap not (source_there line v d need at_d is_b)) ∙ away))

      by : (o : Option NeedPlan) → slice_get line.plan.needs.items d ≡ o → meets_any line v (conditions_of line (OfPlan (NeedUnmet d))) ≡ true
      by None is_o = absurd (false≢true
          (sym (ap (λ o. option_map_or (λ (need : NeedPlan). is_in_at v line.lists.needs.items d && is_unit_there line v need.unit) o false) is_o) ∙ asked))
      by (Some need) is_o = ap (λ o. meets_any line v (option_map_or (unmet_condition line d) o [])) is_o ∙ unmet_met line v d need
          ∙ and_from (is_need_asked_for line v d) (not (is_some_source line v need)) asked (unsourced need is_o (is_some_source line v need) refl)

  same_need : (n d : ℕ) → NeedUnmet n ≡ NeedUnmet d → n ≡ d
  same_need n d is = cc

  unmet_at : (d : ℕ) → IsFoundWhereMet line v findings (OfPlan (NeedUnmet d))
  unmet_at d = (
    λ one. elim (reported (NeedUnmet d) one) [
      | inl at ↦ met_of line v _ _ _ _ _ (are_needs line v plan of.is_plan there of.is_there) (unmet_condition line)
          (is_unmet plan.requests.items plan.flows.items) unmet_same d at
      | inr (n, among, is) ↦ missed_met d
          (ap (is_need_missed line v) (sym (same_need n d is)) ∙ placed_from (is_need_missed line v) 0 (length line.plan.needs.items) n among)
    ],
    λ met. by (slice_get line.plan.needs.items d) refl met,
  )
    where
      by : (o : Option NeedPlan) → slice_get line.plan.needs.items d ≡ o → meets_any line v (option_map_or (unmet_condition line d) o []) ≡ true
          → IsFound findings (OfPlan (NeedUnmet d))
      by None is_o met = absurd (false≢true met)
      by (Some need) is_o met = unmet_found d need is_o met

  exactly_at : (finding : Finding) → comes_by_absence finding ≡ true → IsFoundWhereMet line v findings (OfPlan finding)
  exactly_at (PrivateUnsent g) absent = unsent_at g
  exactly_at (NeedUnmet d) absent = unmet_at d
  exactly_at (RequestUnanswered r) absent = unanswered_at r
  exactly_at (RequestUnheard r) absent = unheard_at r
  exactly_at (AnswerAstray r) absent = astray_at r
  exactly_at _ never = absurd (false≢true never)

pub exactly : AbsenceIsFoundWhereMet
exactly line v findings of = exactly_at line v findings of
