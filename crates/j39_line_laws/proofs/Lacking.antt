-- What the conditions of absence ask of a variant, as tests.
use Rattle.std.proofs.Common.{◌≡◌, ℕ, zero, suc, ◌+◌, Bool, true, false, not, ◌&&◌, ◌||◌, if◌then◌else◌, List, [], ◌∷◌, Some, refl, sym, ◌∙◌, ap, inl, inr}
use Rattle.std.proofs.Common.{arith}
use Rattle.std.specs.List.{list_any, slice_get}
use Rattle.std.proofs.lemmas.Bool.{and_from, and_parts, false≢true, or_cases, or_left, or_right}
use Rattle.std.proofs.lemmas.List.Folds.{list_any-append}
use Rattle.std.proofs.lemmas.Option.{same_Some}
use Rattle.j39_findings.specs.Found.{may_name_receiver, sends, serves_all, serves_one}
use Rattle.j39_load.specs.LineLists.{lines_of_each}
use Rattle.j39_network.specs.Serving.{is_to_one, serves}
use Rattle.j39_network.specs.declared.plan.flow_plan.FlowPlan.{FlowPlan}
use Rattle.j39_network.specs.declared.plan.group_plan.GroupPlan.{GroupPlan}
use Rattle.j39_network.specs.declared.plan.need_plan.NeedPlan.{NeedPlan}
use Rattle.j39_network.specs.declared.plan.request_plan.RequestPlan.{RequestPlan}
use Rattle.j39_part_laws.proofs.Places.{no_value}
use Rattle.j39_variants.specs.declared.line.ProductLine.{ProductLine}
use Rattle.j39_line_findings.specs.Conditions.{answer_with, are_there, astray_by, astray_conditions, Condition, flow_where, flows_where, meets_any}
use Rattle.j39_line_findings.specs.Conditions.{meets_condition}
use Rattle.j39_line_findings.specs.Conditions.{source_parts, sources_of, unmet_condition, unsent_condition, unserved_condition}
use Rattle.j39_line_findings.specs.FullVariants.{provides}
use Rattle.j39_line_findings.specs.MissedNeeds.{is_group_there, is_need_asked_for}
use Rattle.j39_line_findings.specs.There.{is_flow_there, is_request_there}
use Rattle.j39_line_findings.specs.declared.part.LinePart.{LinePart}
use Rattle.j39_line_findings.specs.declared.part.LinePart.TheVariants.{Flow, Group, Need, Request}
use Rattle.j39_line_laws.proofs.PickedPlaces.{one_test}

-- ---- what is reported of the values of a list

pub record IsAtPlace {X : Type 0} (P : ℕ → X → Type 0) (xs : List X) : Type 0 where
  pub k : ℕ
  pub value : X
  pub value_is : slice_get xs k ≡ Some value
  pub meets : P k value

module _ {X Y : Type 0} (test : Y → Bool) (report : ℕ → X → List Y) where
  reported_from : (a : ℕ) (xs : List X) → list_any test (lines_of_each report a xs) ≡ true → IsAtPlace (λ k x. list_any test (report (a + k) x) ≡ true) xs
  unfolding lines_of_each
  reported_from a [] some = absurd (false≢true some)
  reported_from a (x ∷ xs) some =
      elim (or_cases (list_any test (report a x)) (list_any test (lines_of_each report (a + 1) xs))
      (sym (list_any-append test (report a x) (lines_of_each report (a + 1) xs)) ∙ some)) [
        | inl here ↦ record {
          k = 0;
          value = x;
          value_is = refl;
          meets = ap (λ n. list_any test (report n x)) (let e : a + 0 ≡ a = omega arith in e) ∙ here;
        }
        | inr later ↦
            let its = reported_from (a + 1) xs later in
            record {
              k = suc its.k;
              value = its.value;
              value_is = its.value_is;
              meets = ap (λ n. list_any test (report n its.value)) (let e : a + suc its.k ≡ a + 1 + its.k = omega arith in e) ∙ its.meets;
            }
      ]

  from_reported : (a : ℕ) (xs : List X) (k : ℕ) (x : X) → slice_get xs k ≡ Some x → list_any test (report (a + k) x) ≡ true
      → list_any test (lines_of_each report a xs) ≡ true
  unfolding lines_of_each
  from_reported a [] k x at some = absurd (no_value k x at)
  from_reported a (z ∷ xs) zero x at some =
      list_any-append test (report a z) (lines_of_each report (a + 1) xs)
      ∙ or_left (list_any test (report a z)) (list_any test (lines_of_each report (a + 1) xs))
      (ap (λ y. list_any test (report a y)) (same_Some z x at) ∙ ap (λ n. list_any test (report n x)) (let e : a ≡ a + 0 = omega arith in e) ∙ some)
  from_reported a (z ∷ xs) (suc k) x at some =
      list_any-append test (report a z) (lines_of_each report (a + 1) xs)
      ∙ or_right (list_any test (report a z)) (list_any test (lines_of_each report (a + 1) xs))
      (from_reported (a + 1) xs k x at (ap (λ n. list_any test (report n x)) (let e : a + 1 + k ≡ a + suc k = omega arith in e) ∙ some))

  pub reported_at : (xs : List X) → list_any test (lines_of_each report 0 xs) ≡ true → IsAtPlace (λ k x. list_any test (report k x) ≡ true) xs
  reported_at xs some =
      let its = reported_from 0 xs some in
      record {
        k = its.k;
        value = its.value;
        value_is = its.value_is;
        meets = ap (λ n. list_any test (report n its.value)) (let e : its.k ≡ 0 + its.k = omega arith in e) ∙ its.meets;
      }

  pub at_reported : (xs : List X) (k : ℕ) (x : X) → slice_get xs k ≡ Some x → list_any test (report k x) ≡ true
      → list_any test (lines_of_each report 0 xs) ≡ true
  at_reported xs k x at some = from_reported 0 xs k x at (ap (λ n. list_any test (report n x)) (let e : 0 + k ≡ k = omega arith in e) ∙ some)

-- ---- lists by cases

or_none : (b : Bool) → (b || false) ≡ b
or_none true = refl
or_none false = refl

and_all : (b : Bool) → (b && true) ≡ b
and_all true = refl
and_all false = refl

any_if : {Y : Type 0} (test : Y → Bool) (t : Bool) (y : Y) → list_any test (if t then y ∷ [] else []) ≡ (t && test y)
any_if test true y = or_none (test y)
any_if test false y = refl

pub any_where : {Y : Type 0} (test : Y → Bool) (t : Bool) (ys : List Y) → list_any test (if t then ys else []) ≡ (t && list_any test ys)
any_where test true ys = refl
any_where test false ys = refl

pub any_unless : {Y : Type 0} (test : Y → Bool) (t : Bool) (ys : List Y) → list_any test (if t then [] else ys) ≡ (not t && list_any test ys)
any_unless test true ys = refl
any_unless test false ys = refl

any_either : {Y : Type 0} (test : Y → Bool) (t : Bool) (xs ys : List Y)
    → list_any test (if t then xs else ys) ≡ ((t && list_any test xs) || (not t && list_any test ys))
any_either test true xs ys = sym (or_none (list_any test xs))
any_either test false xs ys = refl

module _ (line : ProductLine) (v : List ℕ) where
  -- ---- flows

  -- some flow of the file is there that passes the test
  abbrev pub is_some_there : (FlowPlan → Bool) → Bool
  is_some_there test = list_any (are_there line v) (flows_where line test)

  pub flow_at : (test : FlowPlan → Bool) → is_some_there test ≡ true
      → IsAtPlace (λ k flow. (test flow ≡ true) × (is_flow_there line v k ≡ true)) line.plan.flows.items
  flow_at test some =
      let its = reported_at (are_there line v) (flow_where test) line.plan.flows.items some in
      let (passes, there) = and_parts (test its.value) (are_there line v (Flow its.k ∷ []))
      (sym (any_if (are_there line v) (test its.value) (Flow its.k ∷ [])) ∙ its.meets) in
      record { k = its.k; value = its.value; value_is = its.value_is; meets = (passes, sym (and_all (is_flow_there line v its.k)) ∙ there) }

  pub at_flow : (test : FlowPlan → Bool) (k : ℕ) (flow : FlowPlan) → slice_get line.plan.flows.items k ≡ Some flow → test flow ≡ true
      → is_flow_there line v k ≡ true
      → is_some_there test ≡ true
  at_flow test k flow at passes there = at_reported (are_there line v) (flow_where test) line.plan.flows.items k flow at
      (any_if (are_there line v) (test flow) (Flow k ∷ []) ∙ and_from (test flow) (are_there line v (Flow k ∷ [])) passes
      (and_all (is_flow_there line v k) ∙ there))

  -- ---- groups and requests

  pub unsent_met : (g : ℕ) (group : GroupPlan)
      → meets_any line v (unsent_condition line g group) ≡ (group.private
      && (is_group_there line v g && not (is_some_there (sends line.plan.groups.items group))))
  unsent_met g group =
      any_if (meets_condition line v) group.private (record { together = Group g ∷ []; lacking = flows_where line (sends line.plan.groups.items group) })
      ∙ ap (λ b. group.private && (b && not (is_some_there (sends line.plan.groups.items group)))) (and_all (is_group_there line v g))

  pub unserved_met : (r : ℕ) (request : RequestPlan)
      → meets_any line v (unserved_condition line r request) ≡ (is_request_there line v r && not (is_some_there (serves request)))
  unserved_met r request =
      or_none (meets_condition line v (record { together = Request r ∷ []; lacking = flows_where line (serves request) }))
      ∙ ap (λ b. b && not (is_some_there (serves request))) (and_all (is_request_there line v r))

  module _ (r : ℕ) (one other : FlowPlan → Bool) where
    abbrev by_one : ℕ → Condition
    by_one k = record { together = Request r ∷ Flow k ∷ []; lacking = flows_where line other }

    pub astray_met : meets_any line v (lines_of_each (astray_by line r one other) 0 line.plan.flows.items)
        ≡ (is_request_there line v r && (is_some_there one && not (is_some_there other)))
    astray_met = one_test _ _
        (λ some.
        let its = reported_at (meets_condition line v) (astray_by line r one other) line.plan.flows.items some in
        let (passes, met) = and_parts (one its.value) (meets_condition line v (by_one its.k))
        (sym (any_if (meets_condition line v) (one its.value) (by_one its.k)) ∙ its.meets) in
        let (both_there, none) = and_parts (are_there line v (Request r ∷ Flow its.k ∷ [])) (not (is_some_there other)) met in
        let (request_there, flow_there) = and_parts (is_request_there line v r) (is_flow_there line v its.k && true) both_there in
        and_from (is_request_there line v r) (is_some_there one && not (is_some_there other)) request_there
        (and_from (is_some_there one) (not (is_some_there other))
        (at_flow one its.k its.value its.value_is passes (sym (and_all (is_flow_there line v its.k)) ∙ flow_there)) none))
        (λ all.
        let (request_there, others) = and_parts (is_request_there line v r) (is_some_there one && not (is_some_there other)) all in
        let (some, none) = and_parts (is_some_there one) (not (is_some_there other)) others in
        let its = flow_at one some in
        at_reported (meets_condition line v) (astray_by line r one other) line.plan.flows.items its.k its.value its.value_is
        (any_if (meets_condition line v) (one its.value) (by_one its.k)
        ∙ and_from (one its.value) (meets_condition line v (by_one its.k)) its.meets.0
        (and_from (are_there line v (Request r ∷ Flow its.k ∷ [])) (not (is_some_there other))
        (and_from (is_request_there line v r) (is_flow_there line v its.k && true) request_there (and_all (is_flow_there line v its.k) ∙ its.meets.1)) none)))

  abbrev pub is_one_met : ℕ → RequestPlan → Bool
  is_one_met r request = is_to_one request.to && (may_name_receiver line.plan.groups.items request
      && (is_request_there line v r && (is_some_there (serves_all request) && not (is_some_there (serves_one request)))))

  abbrev pub is_all_met : ℕ → RequestPlan → Bool
  is_all_met r request =
      not (is_to_one request.to) && (is_request_there line v r && (is_some_there (serves_one request) && not (is_some_there (serves_all request))))

  abbrev astray_to_all : ℕ → RequestPlan → List Condition
  astray_to_all r request = lines_of_each (astray_by line r (serves_all request) (serves_one request)) 0 line.plan.flows.items

  abbrev astray_to_one : ℕ → RequestPlan → List Condition
  astray_to_one r request = lines_of_each (astray_by line r (serves_one request) (serves_all request)) 0 line.plan.flows.items

  pub all_astray_met : (r : ℕ) (request : RequestPlan) → meets_any line v (astray_conditions line r request) ≡ (is_one_met r request || is_all_met r request)
  all_astray_met r request =
      any_either (meets_condition line v) (is_to_one request.to)
      (if may_name_receiver line.plan.groups.items request then (astray_to_all r request) else []) (astray_to_one r request)
      ∙ ap (λ b. (is_to_one request.to && b) || (not (is_to_one request.to) && list_any (meets_condition line v) (astray_to_one r request)))
      (any_where (meets_condition line v) (may_name_receiver line.plan.groups.items request) (astray_to_all r request)
      ∙ ap (λ b. may_name_receiver line.plan.groups.items request && b) (astray_met r (serves_all request) (serves_one request)))
      ∙ ap (λ b. is_one_met r request || (not (is_to_one request.to) && b)) (astray_met r (serves_one request) (serves_all request))

  -- ---- needs

  abbrev pub is_some_source : NeedPlan → Bool
  is_some_source need = list_any (are_there line v) (sources_of line need)

  pub unmet_met : (d : ℕ) (need : NeedPlan) → meets_any line v (unmet_condition line d need) ≡ (is_need_asked_for line v d && not (is_some_source need))
  unmet_met d need =
      or_none (meets_condition line v (record { together = Need d ∷ []; lacking = sources_of line need }))
      ∙ ap (λ b. b && not (is_some_source need)) (and_all (is_need_asked_for line v d))

  -- a flow that brings what is needed, with a request where it is only asked for
  pub record IsSource (need : NeedPlan) (k : ℕ) (flow : FlowPlan) : Type 0 where
    pub brings : provides need flow ≡ true
    pub is_there : is_flow_there line v k ≡ true
    pub asked : flow.on_request ≡ true → IsAtPlace (λ r request. (serves request flow ≡ true) × (is_request_there line v r ≡ true)) line.plan.requests.items

  abbrev parts_by : ℕ → FlowPlan → Bool → Bool → List (List LinePart)
  parts_by k flow b o = if not b then [] else if o then lines_of_each (answer_with k flow) 0 line.plan.requests.items else (Flow k ∷ []) ∷ []

  source_from : (need : NeedPlan) (k : ℕ) (flow : FlowPlan) → list_any (are_there line v) (source_parts line need k flow) ≡ true → IsSource need k flow
  source_from need k flow some = by (provides need flow) refl flow.on_request refl some
    where
      by : (b : Bool) → provides need flow ≡ b → (o : Bool) → flow.on_request ≡ o
          → list_any (are_there line v) (parts_by k flow b o) ≡ true → IsSource need k flow
      by false brings o asked some = absurd (false≢true some)
      by true brings false asked some = record {
        brings = brings;
        is_there = sym (and_all (is_flow_there line v k)) ∙ sym (or_none (are_there line v (Flow k ∷ []))) ∙ some;
        asked = λ on. absurd (false≢true (sym asked ∙ on));
      }
      by true brings true asked some =
          let its = reported_at (are_there line v) (answer_with k flow) line.plan.requests.items some in
          let (answers, there) = and_parts (serves its.value flow) (are_there line v (Flow k ∷ Request its.k ∷ []))
          (sym (any_if (are_there line v) (serves its.value flow) (Flow k ∷ Request its.k ∷ [])) ∙ its.meets) in
          let (flow_there, request_there) = and_parts (is_flow_there line v k) (is_request_there line v its.k && true) there in
          record {
            brings = brings;
            is_there = flow_there;
            asked = λ on. record {
              k = its.k;
              value = its.value;
              value_is = its.value_is;
              meets = (answers, sym (and_all (is_request_there line v its.k)) ∙ request_there);
            };
          }

  pub source_at : (need : NeedPlan) → is_some_source need ≡ true → IsAtPlace (IsSource need) line.plan.flows.items
  source_at need some =
      let its = reported_at (are_there line v) (source_parts line need) line.plan.flows.items some in
      record { k = its.k; value = its.value; value_is = its.value_is; meets = source_from need its.k its.value its.meets }

  from_source : (need : NeedPlan) (k : ℕ) (flow : FlowPlan) → IsSource need k flow → list_any (are_there line v) (source_parts line need k flow) ≡ true
  from_source need k flow source = by flow.on_request refl
    where
      by : (o : Bool) → flow.on_request ≡ o → list_any (are_there line v) (parts_by k flow (provides need flow) flow.on_request) ≡ true
      by false is_o =
          ap (λ b. list_any (are_there line v) (parts_by k flow b flow.on_request)) source.brings ∙ ap
          (λ o. list_any (are_there line v) (parts_by k flow true o)) is_o
          ∙ or_none (are_there line v (Flow k ∷ [])) ∙ and_all (is_flow_there line v k) ∙ source.is_there
      by true is_o =
          let its = source.asked is_o in
          ap (λ b. list_any (are_there line v) (parts_by k flow b flow.on_request)) source.brings ∙ ap
          (λ o. list_any (are_there line v) (parts_by k flow true o)) is_o
          ∙ at_reported (are_there line v) (answer_with k flow) line.plan.requests.items its.k its.value its.value_is
          (any_if (are_there line v) (serves its.value flow) (Flow k ∷ Request its.k ∷ [])
          ∙ and_from (serves its.value flow) (are_there line v (Flow k ∷ Request its.k ∷ [])) its.meets.0
          (and_from (is_flow_there line v k) (is_request_there line v its.k && true) source.is_there (and_all (is_request_there line v its.k) ∙ its.meets.1)))

  pub at_source : (need : NeedPlan) (k : ℕ) (flow : FlowPlan) → slice_get line.plan.flows.items k ≡ Some flow → IsSource need k flow
      → is_some_source need ≡ true
  at_source need k flow at source = at_reported (are_there line v) (source_parts line need) line.plan.flows.items k flow at (from_source need k flow source)
