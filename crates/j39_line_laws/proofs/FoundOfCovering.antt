-- What is found of a variant is found of each one that covers it.
use Rattle.std.proofs.Common.{◌≡◌, ℕ, ◌≤◌, true, false, List, Some, refl, sym, ◌∙◌, ap, subst, inl, inr, arith, ◌⊎◌, zero, suc, [], ◌∷◌, ◌++◌, map, Contains}
use Rattle.std.specs.List.{slice_get}
use Rattle.std.proofs.lemmas.Bool.{false≢true, true≢false}
use Rattle.j39_findings.specs.Findings.{Holds}
use Rattle.j39_findings.specs.declared.checking.finding.Finding.{Finding}
use Rattle.j39_findings.specs.declared.checking.finding.Finding.TheVariants.{SameName, SameFixedAddress, TooFewAddresses, BadPgn, SamePgn, SignalWidth}
use Rattle.j39_findings.specs.declared.checking.finding.Finding.TheVariants.{SignalOutside, SignalOverlap, FlowToOne, FlowToSelf, FlowRepeated, KeptAddress}
use Rattle.j39_findings.specs.declared.checking.finding.Finding.TheVariants.{PrivateUnsent, RecordOverlap, TextOutside, NeedUnmet, RequestUnanswered}
use Rattle.j39_findings.specs.declared.checking.finding.Finding.TheVariants.{RequestUnheard, AnswerAstray, WhenOutside, RequestRepeated, SilentAddress}
use Rattle.j39_findings.specs.declared.checking.finding.Finding.TheVariants.{SilentInPool, FlowContested}
use Rattle.j39_load.specs.declared.findings.load_finding.LoadFinding.{LoadFinding}
use Rattle.j39_load.specs.declared.findings.load_finding.LoadFinding.TheVariants.{NoPeriod, Overload, LateFlow, NeedTooOld, AskedTooOften}
use Rattle.j39_network.specs.declared.plan.Plan.{Plan}
use Rattle.j39_network.specs.declared.plan.flow_plan.FlowPlan.{FlowPlan}
use Rattle.j39_network.specs.declared.plan.group_plan.GroupPlan.{GroupPlan}
use Rattle.j39_network.specs.declared.plan.request_plan.RequestPlan.{RequestPlan}
use Rattle.j39_network.specs.declared.plan.unit_plan.UnitPlan.{UnitPlan}
use Rattle.j39_variants.specs.declared.line.ProductLine.{ProductLine}
use Rattle.j39_part_laws.specs.ByAbsence.{comes_by_absence, IsFoundThere}
use Rattle.j39_part_laws.specs.PlanParts.{HoldsThere, IsPartAt, Places}
use Rattle.j39_part_laws.proofs.Places.{value_at}
use Rattle.j39_part_laws.proofs.Findings.{holds_there}
use Rattle.j39_part_laws.proofs.LoadFindings.{are_found_there}
use Rattle.j39_line_findings.proofs.OneOf.{one_cases, one_left, one_right}
use Rattle.j39_line_findings.specs.InFile.{amount_of, finding_in_file, load_finding_in_file, rank_by, rank_of}
use Rattle.j39_line_findings.specs.LineFound.{AreVariantFindings, IsFound}
use Rattle.j39_line_findings.specs.There.{place_in_file, missed_needs}
use Rattle.j39_line_findings.specs.declared.line_finding.LineFinding.{LineFinding}
use Rattle.j39_line_findings.specs.declared.line_finding.LineFinding.TheVariants.{OfPlan, OfLoad}
use Rattle.j39_line_findings.specs.declared.there.Present.{Present}
use Rattle.j39_line_laws.specs.Covering.{IsCoveredBy}
use Rattle.j39_line_laws.specs.FoundOfCovering.{AreFoundOfCovering, IsAbsentOrFound, is_by_absence, OnlyAbsenceIsReported}
use Rattle.j39_line_laws.proofs.Parts.{at, is_part_at}
use Rattle.j39_line_laws.proofs.PlacesInFile.{flow_same, group_same, request_same, unit_same}
use Rattle.j39_findings.specs.Found.{found}
use Rattle.j39_findings.proofs.FoundLaws.{are_findings}

-- ---- one that is made of one of some values

pub record IsMade {A : Type 0} (make : A → LineFinding) (xs : List A) (f : LineFinding) : Type 0 where
  pub value : A
  pub among : Contains xs value
  pub made : make value ≡ f

pub made_of : {A : Type 0} (make : A → LineFinding) (xs : List A) (f : LineFinding) → IsFound (map make xs) f → IsMade make xs f
made_of make [] f one = absurd one
made_of make (x ∷ xs) f (inl same) = record { value = x; among = (0, omega arith, refl); made = same }
made_of make (x ∷ xs) f (inr later) =
    let its = made_of make xs f later in
    let (k, below, is) = its.among in
    record { value = its.value; among = (suc k, omega (arith, below), is); made = its.made }

pub of_made : {A : Type 0} (make : A → LineFinding) (xs : List A) (x : A) → Contains xs x → IsFound (map make xs) (make x)
of_made make [] x (k, below, is) = absurd (omega (arith, below))
of_made make (y ∷ ys) x (zero, below, is) = inl (ap make is)
of_made make (y ∷ ys) x (suc k, below, is) = inr (of_made make ys x (k, omega (arith, below), is))

pub same_plan : (x y : Finding) → OfPlan x ≡ OfPlan y → x ≡ y
same_plan x y is = cc

pub same_load : (x y : LoadFinding) → OfLoad x ≡ OfLoad y → x ≡ y
same_load x y is = cc

apart : (x : Finding) (y : LoadFinding) → OfPlan x ≡ OfLoad y → ⊥
apart x y is = cc

-- ---- of a variant

module _ (line : ProductLine) (v : List ℕ) (findings : List LineFinding) (has : AreVariantFindings line v findings) where
  abbrev plans : List LineFinding
  plans = map (λ finding. OfPlan (finding_in_file has.there finding)) (found has.plan)

  abbrev loads : List LineFinding
  loads = map (λ finding. OfLoad (load_finding_in_file has.there finding)) has.others

  abbrev missed : List LineFinding
  missed = map (λ d. OfPlan (NeedUnmet d)) (missed_needs line v)

  -- one of these three
  cases : (f : LineFinding) → IsFound findings f → IsFound plans f ⊎ (IsFound loads f ⊎ IsFound missed f)
  cases f one = elim (one_cases plans (loads ++ missed) f (subst (λ l. IsFound l f) has.are_all one)) [
    | inl here ↦ inl here
    | inr others ↦ inr (one_cases loads missed f others)
  ]

  pub in_plan : (x : Finding) → IsFound findings (OfPlan x) → ((y : Finding) × Holds has.plan y × (finding_in_file has.there y ≡ x))
      ⊎ ((d : ℕ) × Contains (missed_needs line v) d × (NeedUnmet d ≡ x))
  in_plan x one = elim (cases (OfPlan x) one) [
    | inl here ↦
        let its = made_of (λ f. OfPlan (finding_in_file has.there f)) (found has.plan) (OfPlan x) here in
        inl (its.value, (are_findings has.plan).sound its.value its.among, same_plan (finding_in_file has.there its.value) x its.made)
    | inr (inl load) ↦
        let its = made_of (λ f. OfLoad (load_finding_in_file has.there f)) has.others (OfPlan x) load in
        absurd (apart x (load_finding_in_file has.there its.value) (sym its.made))
    | inr (inr need) ↦
        let its = made_of (λ d. OfPlan (NeedUnmet d)) (missed_needs line v) (OfPlan x) need in
        inr (its.value, its.among, same_plan (NeedUnmet its.value) x its.made)
  ]

  pub in_load : (x : LoadFinding) → IsFound findings (OfLoad x) → (y : LoadFinding) × Contains has.others y × (load_finding_in_file has.there y ≡ x)
  in_load x one = elim (cases (OfLoad x) one) [
    | inl here ↦
        let its = made_of (λ f. OfPlan (finding_in_file has.there f)) (found has.plan) (OfLoad x) here in
        absurd (apart (finding_in_file has.there its.value) x its.made)
    | inr (inl load) ↦
        let its = made_of (λ f. OfLoad (load_finding_in_file has.there f)) has.others (OfLoad x) load in
        (its.value, its.among, same_load (load_finding_in_file has.there its.value) x its.made)
    | inr (inr need) ↦
        let its = made_of (λ d. OfPlan (NeedUnmet d)) (missed_needs line v) (OfLoad x) need in
        absurd (apart (NeedUnmet its.value) x its.made)
  ]

  is_among : (f : LineFinding) → IsFound (plans ++ (loads ++ missed)) f → IsFound findings f
  is_among f = subst (λ l. IsFound l f) (sym has.are_all)

  pub of_plan_reported : (y : Finding) → Holds has.plan y → IsFound findings (OfPlan (finding_in_file has.there y))
  of_plan_reported y holds = is_among _ (one_left plans (loads ++ missed) _
      (of_made (λ f. OfPlan (finding_in_file has.there f)) (found has.plan) y ((are_findings has.plan).complete y holds)))

  pub of_load_reported : (y : LoadFinding) → Contains has.others y → IsFound findings (OfLoad (load_finding_in_file has.there y))
  of_load_reported y among = is_among _ (one_right plans (loads ++ missed) _
      (one_left loads missed _ (of_made (λ f. OfLoad (load_finding_in_file has.there f)) has.others y among)))

  pub of_missed_reported : (d : ℕ) → Contains (missed_needs line v) d → IsFound findings (OfPlan (NeedUnmet d))
  of_missed_reported d among = is_among _ (one_right plans (loads ++ missed) _
      (one_right loads missed _ (of_made (λ n. OfPlan (NeedUnmet n)) (missed_needs line v) d among)))

-- ---- of a variant and of one that covers it

one_place : (n j k a b : ℕ) → a ≡ b → rank_by n a j k ≡ rank_by n b j k
one_place n j k a b same = ap (λ x. rank_by n x j k) same

two_places : (n k a b c d : ℕ) → a ≡ b → c ≡ d → rank_by n a c k ≡ rank_by n b d k
two_places n k a b c d one other = ap (λ x. rank_by n x c k) one ∙ ap (λ x. rank_by n b x k) other

module _ (line : ProductLine) (v w : List ℕ) (covered : IsCoveredBy line v w) (here there : List LineFinding) (of_here : AreVariantFindings line v here)
    (of_there : AreVariantFindings line w there) where
  abbrev part : Plan
  part = of_here.plan

  abbrev whole : Plan
  whole = of_there.plan

  abbrev p : Places
  p = at line v w covered

  is_part : IsPartAt p part whole
  is_part = is_part_at line v w covered part whole of_here.is_plan of_there.is_plan

  abbrev these : Present
  these = of_here.there

  abbrev those : Present
  those = of_there.there

  unit_is : (i : ℕ) (x : UnitPlan) → slice_get part.units.items i ≡ Some x → place_in_file those.units.items (p.unit i) ≡ place_in_file these.units.items i
  unit_is = unit_same line v w covered part of_here.is_plan these those of_here.is_there of_there.is_there

  group_is : (i : ℕ) (x : GroupPlan) → slice_get part.groups.items i ≡ Some x
      → place_in_file those.groups.items (p.group i) ≡ place_in_file these.groups.items i
  group_is = group_same line v w covered part of_here.is_plan these those of_here.is_there of_there.is_there

  flow_is : (i : ℕ) (x : FlowPlan) → slice_get part.flows.items i ≡ Some x → place_in_file those.flows.items (p.flow i) ≡ place_in_file these.flows.items i
  flow_is = flow_same line v w covered part of_here.is_plan these those of_here.is_there of_there.is_there

  request_is : (i : ℕ) (x : RequestPlan) → slice_get part.requests.items i ≡ Some x
      → place_in_file those.requests.items (p.request i) ≡ place_in_file these.requests.items i
  request_is = request_same line v w covered part of_here.is_plan these those of_here.is_there of_there.is_there

  -- ---- findings of the plan

  reported : (x : Finding) → Holds whole x → IsFound there (OfPlan (finding_in_file those x))
  reported = of_plan_reported line w there of_there

  also : (x y : Finding) → Holds whole x → comes_by_absence (finding_in_file those x) ≡ false
      → rank_of (OfPlan (finding_in_file those x)) ≡ rank_of (OfPlan (finding_in_file these y))
      → amount_of (OfPlan (finding_in_file these y)) ≤ amount_of (OfPlan (finding_in_file those x)) → IsAbsentOrFound there (OfPlan (finding_in_file these y))
  also x y holds present rank amount = inr (OfPlan (finding_in_file those x), reported x holds, present, rank, amount)

  found_also : (finding : Finding) → Holds part finding → HoldsThere p whole finding → IsAbsentOrFound there (OfPlan (finding_in_file these finding))
  found_also (SameName i j) holds its = also (SameName (p.unit i) (p.unit j)) (SameName i j) its refl
      (two_places 1 0 _ _ _ _ (unit_is i holds.first holds.first_is) (unit_is j holds.second holds.second_is)) (omega arith)
  found_also (SameFixedAddress i j) holds its = also (SameFixedAddress (p.unit i) (p.unit j)) (SameFixedAddress i j) its refl
      (two_places 2 0 _ _ _ _ (unit_is i holds.first holds.first_is) (unit_is j holds.second holds.second_is)) (omega arith)
  found_also (TooFewAddresses n) holds (m, more, its) = also (TooFewAddresses m) (TooFewAddresses n) its refl refl more
  found_also (BadPgn g) holds its = also (BadPgn (p.group g)) (BadPgn g) its refl (one_place 4 0 0 _ _ (group_is g holds.value holds.value_is)) (omega arith)
  found_also (SamePgn g h) holds its = also (SamePgn (p.group g) (p.group h)) (SamePgn g h) its refl
      (two_places 5 0 _ _ _ _ (group_is g holds.first holds.first_is) (group_is h holds.second holds.second_is)) (omega arith)
  found_also (SignalWidth g s) holds its = also (SignalWidth (p.group g) s) (SignalWidth g s) its refl
      (one_place 6 s 0 _ _ (group_is g holds.value holds.value_is)) (omega arith)
  found_also (SignalOutside g s) holds its = also (SignalOutside (p.group g) s) (SignalOutside g s) its refl
      (one_place 7 s 0 _ _ (group_is g holds.value holds.value_is)) (omega arith)
  found_also (SignalOverlap g s t) holds its = also (SignalOverlap (p.group g) s t) (SignalOverlap g s t) its refl
      (one_place 8 s t _ _ (group_is g holds.value holds.value_is)) (omega arith)
  found_also (FlowToOne f) holds its = also (FlowToOne (p.flow f)) (FlowToOne f) its refl (one_place 9 0 0 _ _ (flow_is f holds.value holds.value_is))
      (omega arith)
  found_also (FlowToSelf f) holds its = also (FlowToSelf (p.flow f)) (FlowToSelf f) its refl (one_place 10 0 0 _ _ (flow_is f holds.value holds.value_is))
      (omega arith)
  found_also (FlowRepeated f h) holds its = also (FlowRepeated (p.flow f) (p.flow h)) (FlowRepeated f h) its refl
      (two_places 11 0 _ _ _ _ (flow_is f holds.first holds.first_is) (flow_is h holds.second holds.second_is)) (omega arith)
  found_also (KeptAddress i) holds its = also (KeptAddress (p.unit i)) (KeptAddress i) its refl (one_place 12 0 0 _ _ (unit_is i holds.value holds.value_is))
      (omega arith)
  found_also (PrivateUnsent g) holds its = inl refl
  found_also (RecordOverlap g s t) holds its = also (RecordOverlap (p.group g) s t) (RecordOverlap g s t) its refl
      (one_place 14 s t _ _ (group_is g holds.value holds.value_is)) (omega arith)
  found_also (TextOutside g t) holds its = also (TextOutside (p.group g) t) (TextOutside g t) its refl
      (one_place 15 t 0 _ _ (group_is g holds.value holds.value_is)) (omega arith)
  found_also (NeedUnmet n) holds its = inl refl
  found_also (RequestUnanswered r) holds its = inl refl
  found_also (RequestUnheard r) holds its = inl refl
  found_also (AnswerAstray r) holds its = inl refl
  found_also (WhenOutside g) holds its = also (WhenOutside (p.group g)) (WhenOutside g) its refl (one_place 24 0 0 _ _ (group_is g holds.value holds.value_is))
      (omega arith)
  found_also (RequestRepeated r s) holds its = also (RequestRepeated (p.request r) (p.request s)) (RequestRepeated r s) its refl
      (two_places 25 0 _ _ _ _ (request_is r holds.first holds.first_is) (request_is s holds.second holds.second_is)) (omega arith)
  found_also (SilentAddress i j) holds its = also (SilentAddress (p.unit i) (p.unit j)) (SilentAddress i j) its refl
      (two_places 26 0 _ _ _ _ (unit_is i holds.first holds.first_is) (unit_is j holds.second holds.second_is)) (omega arith)
  found_also (SilentInPool i) holds its = also (SilentInPool (p.unit i)) (SilentInPool i) its refl (one_place 27 0 0 _ _ (unit_is i holds.value holds.value_is))
      (omega arith)
  found_also (FlowContested f) holds its = also (FlowContested (p.flow f)) (FlowContested f) its refl
      (one_place 28 0 0 _ _ (flow_is f holds.value holds.value_is)) (omega arith)

  -- ---- findings of the load

  load_also : (finding : LoadFinding) → IsFoundThere p part of_there.others finding → IsAbsentOrFound there (OfLoad (load_finding_in_file these finding))
  load_also (NoPeriod f) (inside, among) =
      let (flow, at_f) = value_at part.flows.items f inside in
      inr (
        OfLoad (NoPeriod (place_in_file those.flows.items (p.flow f))),
        of_load_reported line w there of_there (NoPeriod (p.flow f)) among,
        refl,
        one_place 16 0 0 _ _ (flow_is f flow at_f),
        omega arith,
      )
  load_also (Overload n) (m, more, among) = inr (OfLoad (Overload m), of_load_reported line w there of_there (Overload m) among, refl, refl, more)
  load_also (LateFlow f) (inside, among) =
      let (flow, at_f) = value_at part.flows.items f inside in
      inr (
        OfLoad (LateFlow (place_in_file those.flows.items (p.flow f))),
        of_load_reported line w there of_there (LateFlow (p.flow f)) among,
        refl,
        one_place 18 0 0 _ _ (flow_is f flow at_f),
        omega arith,
      )
  load_also (NeedTooOld d) its = inl refl
  load_also (AskedTooOften f) (inside, among) =
      let (flow, at_f) = value_at part.flows.items f inside in
      inr (
        OfLoad (AskedTooOften (place_in_file those.flows.items (p.flow f))),
        of_load_reported line w there of_there (AskedTooOften (p.flow f)) among,
        refl,
        one_place 31 0 0 _ _ (flow_is f flow at_f),
        omega arith,
      )

  -- ---- all of them

  plan_found : (finding : Finding) → IsFound here (OfPlan finding) → IsAbsentOrFound there (OfPlan finding)
  plan_found finding one = elim (in_plan line v here of_here finding one) [
    | inl (x, holds, is) ↦
        subst (λ f. IsAbsentOrFound there (OfPlan f)) is (found_also x holds (holds_there p part whole is_part x holds))
    | inr (d, absent, is) ↦ inl (ap comes_by_absence (sym is))
  ]

  load_found : ((g : ℕ) → ¬ IsFound there (OfPlan (BadPgn g))) → (finding : LoadFinding) → IsFound here (OfLoad finding)
      → IsAbsentOrFound there (OfLoad finding)
  load_found good finding one =
      let (x, among, is) = in_load line v here of_here finding one in
      subst (λ f. IsAbsentOrFound there (OfLoad f)) is (load_also x
      (are_found_there p part whole is_part (λ g bad. good (place_in_file those.groups.items g) (reported (BadPgn g) bad)) of_here.others of_there.others
      of_here.are_others of_there.are_others x among))

  pub are_found : AreFoundOfCovering here there
  are_found = record { plans = plan_found; loads = load_found }

  -- ---- where only absence is found there

  module _ (only : OnlyAbsenceIsReported there) where
    by_absence : (finding : LineFinding) → IsAbsentOrFound there finding → is_by_absence finding ≡ true
    by_absence finding (inl absent) = absent
    by_absence finding (inr (other, one, present, rank, amount)) = absurd (true≢false (sym (only other one) ∙ present))

    pub only_absence : OnlyAbsenceIsReported here
    only_absence (OfPlan finding) one = by_absence (OfPlan finding) (plan_found finding one)
    only_absence (OfLoad finding) one = by_absence (OfLoad finding) (load_found (λ g bad. false≢true (only (OfPlan (BadPgn g)) bad)) finding one)
