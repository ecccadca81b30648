-- In the plan of each vehicle the same is found as in the plan, where no two units may be one.
use Rattle.std.proofs.Common.{◌≡◌, ◌≢◌, ℕ, List, [], ◌∷◌, Bool, true, false, nat_lt, Option, Some, None, Contains, if◌then◌else◌, refl, sym, ◌∙◌, ap, subst}
use Rattle.std.proofs.Common.{inl, inr, arith}
use Rattle.std.specs.FinSet.{FinSet}
use Rattle.std.specs.List.{slice_get}
use Rattle.std.specs.Ordering.{nat_cmp}
use Rattle.std.proofs.lemmas.Bool.{cases_Bool}
use Rattle.std.proofs.lemmas.Bool.Decides.{Decides-ltb}
use Rattle.j39_network.specs.declared.plan.Plan.{Plan}
use Rattle.j39_network.specs.declared.plan.flow_plan.FlowPlan.{FlowPlan}
use Rattle.j39_network.specs.declared.plan.unit_plan.UnitPlan.{UnitPlan}
use Rattle.j39_findings.specs.declared.checking.finding.Finding.{Finding}
use Rattle.j39_findings.specs.declared.checking.finding.Finding.TheVariants.{SameName, SameFixedAddress, KeptAddress, SilentAddress, SilentInPool}
use Rattle.j39_findings.specs.declared.checking.finding.Finding.TheVariants.{FlowContested, TooFewAddresses, BadPgn, SamePgn, SignalWidth, SignalOutside}
use Rattle.j39_findings.specs.declared.checking.finding.Finding.TheVariants.{SignalOverlap, FlowToOne, FlowToSelf, FlowRepeated, PrivateUnsent, RecordOverlap}
use Rattle.j39_findings.specs.declared.checking.finding.Finding.TheVariants.{TextOutside, NeedUnmet, RequestUnanswered, RequestUnheard, AnswerAstray}
use Rattle.j39_findings.specs.declared.checking.finding.Finding.TheVariants.{WhenOutside, RequestRepeated}
use Rattle.j39_network.specs.declared.steps.Step.{Step}
use Rattle.j39_search.specs.ListPlaces.{pairs, PairAt}
use Rattle.j39_network.specs.Kinds.{MayBeOne, AreDistinctUnits, may_be_one}
use Rattle.j39_findings.specs.Findings.{Clean, IsAloneInPlan, IsFlowContested}
use Rattle.j39_network.specs.PlannedUnits.{units_of}
use Rattle.j39_network.specs.Staying.{IsAloneThere}
use Rattle.j39_findings.specs.Found.{have_same_fixed_address, needs_pool_address, unit_findings, kept_findings, prefers_kept, have_silent_address}
use Rattle.j39_findings.specs.Found.{is_silent_in_pool, silent_findings, contested_findings, is_unit_alone, is_contested, found}
use Rattle.j39_findings.specs.ConflictRuns.{are_in_conflict, steps_between, run_of_units, run_of_places, conflict_run}
use Rattle.j39_network.specs.VehiclePlans.{IsBoxOf, IsVehicleOf}
use Rattle.j39_findings.specs.FoundInVehicles.{AreFoundAlike}
use Rattle.j39_network.proofs.Boxes.{apart_at}
use Rattle.j39_network.proofs.Served.{Decides-may_be_one}
use Rattle.j39_findings.proofs.FoundLaws.{clean_from_none, none_from_clean}
use Rattle.j39_search.proofs.Members.{of_pairs}
use Rattle.j39_network.proofs.VehicleUnits.{AreBoth, both_at, boxes_apart, count_alike, each_alike, ordered, pairs_alike}
use Rattle.j39_findings.proofs.BoxRules.{boxes_fixed, boxes_silent, box_needs, box_prefers, box_silent}
use Rattle.j39_search.proofs.PlaceLemmas.{each_same}
use Rattle.j39_network.proofs.StayingBoxes.{outside_alike, outside_back, stay_alike}
use Rattle.j39_findings.proofs.WhoIsAlone.{alone_by_list, Decides-both, Decides-contested}

none_paired : (units : List UnitPlan) → ((i j : ℕ) → ¬ PairAt MayBeOne units i j) → pairs may_be_one SameName units ≡ []
none_paired units none =
    let none_in : (f : Finding) → ¬ Contains (pairs may_be_one SameName units) f = λ f h.
    let pair = of_pairs MayBeOne Decides-may_be_one SameName units f h in
    none pair.0 pair.1 pair.3 in
    go (pairs may_be_one SameName units) none_in
  where
    go : (fs : List Finding) → ((f : Finding) → ¬ Contains fs f) → fs ≡ []
    go [] none = refl
    go (f ∷ fs) none = absurd (none f (0, omega arith, refl))

-- ---- a plan and the plan of a vehicle

module _ (plan vehicle : Plan) (is : IsVehicleOf plan vehicle) (apart : AreDistinctUnits plan) where
  abbrev units : List UnitPlan
  units = plan.units.items

  abbrev boxes : List UnitPlan
  boxes = vehicle.units.items

  units_found : (kept : FinSet nat_cmp) (strangers : ℕ) → unit_findings kept strangers boxes ≡ unit_findings kept strangers units
  unfolding unit_findings
  units_found kept strangers =
      let names = none_paired boxes (boxes_apart plan vehicle is apart) ∙ sym (none_paired units apart) in
      let fixed = pairs_alike IsBoxOf have_same_fixed_address (λ u b v c. boxes_fixed u b v c) SameFixedAddress units boxes is.boxes in
      let counted = count_alike IsBoxOf (needs_pool_address kept) (λ u b box. box_needs u b box kept) units boxes is.boxes in
      rw (names, fixed, counted) refl

  kept_found : (kept : FinSet nat_cmp) → kept_findings kept boxes ≡ kept_findings kept units
  unfolding kept_findings
  kept_found kept = each_alike IsBoxOf (prefers_kept kept) (prefers_kept kept) (λ u b box. box_prefers u b box kept) KeptAddress 0 units boxes is.boxes

  silent_found : (kept : FinSet nat_cmp) (strangers : ℕ) → silent_findings kept strangers boxes ≡ silent_findings kept strangers units
  unfolding silent_findings
  silent_found kept strangers =
      let paired = pairs_alike IsBoxOf have_silent_address (λ u b v c. boxes_silent u b v c) SilentAddress units boxes is.boxes in
      let single = each_alike IsBoxOf (is_silent_in_pool kept strangers) (is_silent_in_pool kept strangers)
      (λ u b box. box_silent u b box kept strangers) SilentInPool 0 units boxes is.boxes in
      rw (paired, single) refl

  -- a unit is alone in both
  to_vehicle : (u : ℕ) → IsAloneInPlan plan u → IsAloneInPlan vehicle u
  to_vehicle u (there, beside) = (
    subst (λ kept. IsAloneThere kept (units_of vehicle) u) (sym is.keep_free) (((stay_alike plan vehicle is apart).alone u).0 there),
    elim beside [
      | inl none ↦ inl (is.strangers ∙ none)
      | inr outside ↦ inr (outside_alike plan vehicle is apart u outside)
    ],
  )

  to_plan : (u : ℕ) → IsAloneInPlan vehicle u → IsAloneInPlan plan u
  to_plan u (there, beside) = (
    ((stay_alike plan vehicle is apart).alone u).1 (subst (λ kept. IsAloneThere kept (units_of vehicle) u) is.keep_free there),
    elim beside [
      | inl none ↦ inl (sym is.strangers ∙ none)
      | inr outside ↦ inr (outside_back plan vehicle is apart u outside)
    ],
  )

  contested_over : (one other : Plan) → ((u : ℕ) → IsAloneInPlan other u → IsAloneInPlan one u) → one.live ≡ true → other.live ≡ true → (flow : FlowPlan)
      → IsFlowContested one flow → IsFlowContested other flow
  contested_over one other over live live_other flow (_, inl sender) = (live_other, inl (λ alone. sender (over flow.sender alone)))
  contested_over one other over live live_other flow (_, inr (r, to, receiver)) = (live_other, inr (r, to, λ alone. receiver (over r alone)))

  ends_alike : plan.live ≡ true → (flow : FlowPlan)
      → is_contested (is_unit_alone vehicle.keep_free vehicle.strangers boxes) boxes flow
      ≡ is_contested (is_unit_alone plan.keep_free plan.strangers units) units flow
  ends_alike live flow =
      let live_there = is.live ∙ live in
      let in_vehicle = Decides-contested vehicle _ (alone_by_list vehicle) live_there flow in
      let in_plan = Decides-contested plan _ (alone_by_list plan) live flow in
      Decides-both _ _ (IsFlowContested vehicle flow) (IsFlowContested plan flow) in_vehicle in_plan
      (contested_over vehicle plan to_vehicle live_there live flow) (contested_over plan vehicle to_plan live live_there flow)

  contested_found : contested_findings vehicle.live vehicle.keep_free vehicle.strangers boxes vehicle.flows.items
      ≡ contested_findings plan.live plan.keep_free plan.strangers units plan.flows.items
  unfolding contested_findings
  contested_found =
      ap (λ b. contested_findings b vehicle.keep_free vehicle.strangers boxes vehicle.flows.items) is.live
      ∙ ap (contested_findings plan.live vehicle.keep_free vehicle.strangers boxes) is.flows ∙ go plan.live refl
    where
      go : (b : Bool) → plan.live ≡ b
          → contested_findings b vehicle.keep_free vehicle.strangers boxes plan.flows.items
          ≡ contested_findings b plan.keep_free plan.strangers units plan.flows.items
      go true live = each_same (is_contested (is_unit_alone plan.keep_free plan.strangers units) units)
          (is_contested (is_unit_alone vehicle.keep_free vehicle.strangers boxes) boxes) (ends_alike live) FlowContested 0 plan.flows.items
      go false none = refl

  pub same_found : found vehicle ≡ found plan
  unfolding found
  same_found =
      rw (
        contested_found,
        is.keep_free,
        is.strangers,
        is.groups,
        is.flows,
        is.needs,
        is.requests,
        units_found plan.keep_free plan.strangers,
        kept_found plan.keep_free,
        silent_found plan.keep_free plan.strangers,
      ) refl

  -- ---- runs of conflicts

  in_conflict : (i j : ℕ) (u v b c : UnitPlan) → slice_get units i ≡ Some u → slice_get units j ≡ Some v → slice_get boxes i ≡ Some b
      → slice_get boxes j ≡ Some c → IsBoxOf u b → IsBoxOf v c → i ≢ j
      → (are_in_conflict b c ≡ are_in_conflict u v) × (steps_between i j b c ≡ steps_between i j u v)
  unfolding steps_between are_in_conflict
  in_conflict i j u v b c first second at other one two differ =
      let alike = ordered plan vehicle is apart i j u v b c first second one two differ in
      let apart_units : may_be_one u v ≡ false = not_one u v (apart_at plan apart i j u v first second differ) in
      let apart_boxes : may_be_one b c ≡ false = not_one b c (apart_at vehicle (boxes_apart plan vehicle is apart) i j b c at other differ) in
      (rw (boxes_fixed u b v c one two, apart_units, apart_boxes) refl, rw alike.order refl)
    where
      not_one : (x y : UnitPlan) → ¬ MayBeOne x y → may_be_one x y ≡ false
      not_one x y apart = elim (cases_Bool (may_be_one x y)) [ inl one ↦ absurd (apart ((Decides-may_be_one x y).0 one)) | inr none ↦ none ]

  run_alike : (i j : ℕ) → i ≢ j → (o p q r : Option UnitPlan) → slice_get units i ≡ o → slice_get units j ≡ p → slice_get boxes i ≡ q
      → slice_get boxes j ≡ r → AreBoth IsBoxOf o q → AreBoth IsBoxOf p r → run_of_units i j q r ≡ run_of_units i j o p
  unfolding run_of_units
  run_alike i j differ None p None r first second at other one two = refl
  run_alike i j differ None p (Some b) r first second at other one two = absurd one
  run_alike i j differ (Some u) p None r first second at other one two = absurd one
  run_alike i j differ (Some u) None (Some b) None first second at other one two = refl
  run_alike i j differ (Some u) None (Some b) (Some c) first second at other one two = absurd two
  run_alike i j differ (Some u) (Some v) (Some b) None first second at other one two = absurd two
  run_alike i j differ (Some u) (Some v) (Some b) (Some c) first second at other one two =
      let same = in_conflict i j u v b c first second at other one two differ in
      ap (λ t. if t then Some (steps_between i j b c) else None) same.0 ∙ ap (λ (s : List Step). if are_in_conflict u v then Some s else None) same.1

  places_alike : (i j : ℕ) → run_of_places vehicle i j ≡ run_of_places plan i j
  unfolding run_of_places
  places_alike i j = elim (cases_Bool (nat_lt i j)) [
    | inl below ↦
        let less = (Decides-ltb i j).0 below in
        let differ : i ≢ j = λ same. absurd (omega (arith, less, same)) in
        rw below (run_alike i j differ (slice_get units i) (slice_get units j) (slice_get boxes i) (slice_get boxes j) refl refl refl refl
        (both_at IsBoxOf units boxes is.boxes i) (both_at IsBoxOf units boxes is.boxes j))
    | inr above ↦ rw above refl
  ]

  same_run : (finding : Finding) → conflict_run vehicle finding ≡ conflict_run plan finding
  unfolding conflict_run
  same_run (SameName i j) = refl
  same_run (SameFixedAddress i j) = places_alike i j
  same_run (TooFewAddresses n) = refl
  same_run (BadPgn g) = refl
  same_run (SamePgn g h) = refl
  same_run (SignalWidth g s) = refl
  same_run (SignalOutside g s) = refl
  same_run (SignalOverlap g s t) = refl
  same_run (FlowToOne f) = refl
  same_run (FlowToSelf f) = refl
  same_run (FlowRepeated f h) = refl
  same_run (KeptAddress i) = refl
  same_run (PrivateUnsent g) = refl
  same_run (RecordOverlap g s t) = refl
  same_run (TextOutside g t) = refl
  same_run (NeedUnmet n) = refl
  same_run (RequestUnanswered r) = refl
  same_run (RequestUnheard r) = refl
  same_run (AnswerAstray r) = refl
  same_run (WhenOutside g) = refl
  same_run (RequestRepeated r s) = refl
  same_run (SilentAddress u v) = refl
  same_run (SilentInPool u) = refl
  same_run (FlowContested f) = refl

  pub found_alike : AreFoundAlike plan vehicle
  found_alike = record { findings = same_found; runs = same_run }

pub clean_vehicle : (plan vehicle : Plan) → IsVehicleOf plan vehicle → Clean plan → Clean vehicle
clean_vehicle plan vehicle is clean =
    clean_from_none vehicle (same_found plan vehicle is (λ i j pair. clean (SameName i j) pair) ∙ none_from_clean plan clean)
