-- What comes by what is there is found of a variant exactly where it is found of the file, and its parts are there together.
use Rattle.std.proofs.Common.{◌≡◌, ℕ, true, false, not, List, [], ◌∷◌, Some, sym, ◌∙◌, ap, subst, inl, inr}
use Rattle.std.specs.List.{slice_get}
use Rattle.std.proofs.lemmas.Bool.{false≢true, not-true, true≢false}
use Rattle.j39_findings.proofs.FoundLaws.{are_findings}
use Rattle.j39_findings.specs.Findings.{HaveSameFixedAddress, HaveSilentAddress, Holds, IsSilentInPool, PrefersKept}
use Rattle.j39_findings.specs.declared.checking.finding.Finding.{Finding}
use Rattle.j39_findings.specs.declared.checking.finding.Finding.TheVariants.{SameName, SameFixedAddress, TooFewAddresses, BadPgn, SamePgn, SignalWidth}
use Rattle.j39_findings.specs.declared.checking.finding.Finding.TheVariants.{SignalOutside, SignalOverlap, FlowToOne, FlowToSelf, FlowRepeated, KeptAddress}
use Rattle.j39_findings.specs.declared.checking.finding.Finding.TheVariants.{PrivateUnsent, RecordOverlap, TextOutside, NeedUnmet, RequestUnanswered}
use Rattle.j39_findings.specs.declared.checking.finding.Finding.TheVariants.{RequestUnheard, AnswerAstray, WhenOutside, RequestRepeated, SilentAddress}
use Rattle.j39_findings.specs.declared.checking.finding.Finding.TheVariants.{SilentInPool, FlowContested}
use Rattle.j39_network.specs.Kinds.{MayBeOne}
use Rattle.j39_network.specs.declared.plan.Plan.{Plan}
use Rattle.j39_network.specs.declared.plan.flow_plan.FlowPlan.{FlowPlan}
use Rattle.j39_network.specs.declared.plan.group_plan.GroupPlan.{GroupPlan}
use Rattle.j39_network.specs.declared.plan.request_plan.RequestPlan.{RequestPlan}
use Rattle.j39_network.specs.declared.plan.unit_plan.UnitPlan.{UnitPlan}
use Rattle.j39_variants.specs.declared.line.ProductLine.{ProductLine}
use Rattle.j39_search.specs.ListPlaces.{ValueAt}
use Rattle.j39_part_laws.specs.ByAbsence.{comes_by_absence}
use Rattle.j39_part_laws.specs.PlanParts.{HoldsThere, IsGroupThere, IsPartAt, Places}
use Rattle.j39_part_laws.proofs.Findings.{holds_there}
use Rattle.j39_part_laws.proofs.Groups.{bad_pgn, outside, overlap, records, selector_outside, text_outside, width}
use Rattle.j39_signal.specs.Places.{SharesBit, WidthFits}
use Rattle.j39_line_findings.specs.Conditions.{conditions_of_groups, conditions_of_plan, goes_by_conditions, meets_any, where_together}
use Rattle.j39_line_findings.specs.InFile.{finding_in_file}
use Rattle.j39_line_findings.specs.LineFound.{AreVariantFindings, IsFound}
use Rattle.j39_line_findings.specs.There.{is_flow_there, place_in_file}
use Rattle.j39_line_findings.specs.FlowEnds.{has_end_in_pool}
use Rattle.j39_line_findings.specs.declared.line_finding.LineFinding.{LineFinding}
use Rattle.j39_line_findings.specs.declared.line_finding.LineFinding.TheVariants.{OfPlan}
use Rattle.j39_line_findings.specs.declared.part.LinePart.TheVariants.{Unit as AUnit, Group, Flow, Request}
use Rattle.j39_line_findings.specs.declared.there.Present.{Present}
use Rattle.j39_line_laws.proofs.FoundOfCovering.{in_plan, of_plan_reported}
use Rattle.j39_line_laws.proofs.ContestedFlows.{contested_flow, contested_there, there_contested}
use Rattle.j39_line_laws.proofs.FilePlaces.{HasPlace}
use Rattle.j39_line_laws.proofs.InPart.{asked_found, group_back, repeated_found, to_one_found, to_self_found, unit_back, units_back}
use Rattle.j39_line_laws.proofs.InWhole.{at, flow_in_file, flow_place, flow_there, group_in_file, group_place, group_there, is_part, request_in_file}
use Rattle.j39_line_laws.proofs.InWhole.{request_place, request_there, unit_in_file}
use Rattle.j39_line_laws.proofs.InWhole.{unit_place, unit_there}
use Rattle.j39_line_laws.proofs.SameNumbers.{groups_of, same_pgn_there, there_same_pgn}
use Rattle.j39_line_laws.proofs.Tests.{both_met, met_both, met_one, one_met}
use Rattle.j39_line_laws.specs.ByPresence.{IsFoundOfParts}

-- the plan of the file has it, and its parts are there together
abbrev IsReported : ProductLine → List ℕ → Finding → Type 0
IsReported line v finding = Holds line.plan finding × (meets_any line v (conditions_of_plan line finding) ≡ true)

module _ (line : ProductLine) (v : List ℕ) (findings : List LineFinding) (has : AreVariantFindings line v findings) where
  abbrev plan : Plan
  plan = has.plan

  abbrev these : Present
  these = has.there

  abbrev p : Places
  p = at line v

  is : IsPartAt p plan line.plan
  is = is_part line v plan has.is_plan

  in_whole : (finding : Finding) → Holds plan finding → HoldsThere p line.plan finding
  in_whole = holds_there p plan line.plan is

  unit_is : (i : ℕ) (x : UnitPlan) → slice_get plan.units.items i ≡ Some x → place_in_file these.units.items i ≡ p.unit i
  unit_is = unit_in_file line v plan has.is_plan these has.is_there

  group_is : (i : ℕ) (x : GroupPlan) → slice_get plan.groups.items i ≡ Some x → place_in_file these.groups.items i ≡ p.group i
  group_is = group_in_file line v plan has.is_plan these has.is_there

  flow_is : (i : ℕ) (x : FlowPlan) → slice_get plan.flows.items i ≡ Some x → place_in_file these.flows.items i ≡ p.flow i
  flow_is = flow_in_file line v plan has.is_plan these has.is_there

  request_is : (i : ℕ) (x : RequestPlan) → slice_get plan.requests.items i ≡ Some x → place_in_file these.requests.items i ≡ p.request i
  request_is = request_in_file line v plan has.is_plan these has.is_there

  -- ---- from the plan of the variant to that of the file

  unit_stated : (make : ℕ → Finding) (i : ℕ) (x : UnitPlan) → slice_get plan.units.items i ≡ Some x → Holds line.plan (make (p.unit i))
      → ((k : ℕ) → meets_any line v (where_together (AUnit k ∷ [])) ≡ true → meets_any line v (conditions_of_plan line (make k)) ≡ true)
      → IsReported line v (make (place_in_file these.units.items i))
  unit_stated make i x at_x holds goes = subst (λ a. IsReported line v (make a)) (sym (unit_is i x at_x))
      (holds, goes (p.unit i) (one_met line v (AUnit (p.unit i)) (unit_there line v plan has.is_plan i x at_x)))

  units_stated : (make : ℕ → ℕ → Finding) (i j : ℕ) (x y : UnitPlan) → slice_get plan.units.items i ≡ Some x → slice_get plan.units.items j ≡ Some y
      → Holds line.plan (make (p.unit i) (p.unit j))
      → ((k l : ℕ) → meets_any line v (where_together (AUnit k ∷ AUnit l ∷ [])) ≡ true → meets_any line v (conditions_of_plan line (make k l)) ≡ true)
      → IsReported line v (make (place_in_file these.units.items i) (place_in_file these.units.items j))
  units_stated make i j x y at_x at_y holds goes = subst (λ a. IsReported line v (make a (place_in_file these.units.items j))) (sym (unit_is i x at_x))
      (subst (λ b. IsReported line v (make (p.unit i) b)) (sym (unit_is j y at_y)) (
        holds,
        goes (p.unit i) (p.unit j)
            (both_met line v (AUnit (p.unit i)) (AUnit (p.unit j)) (unit_there line v plan has.is_plan i x at_x) (unit_there line v plan has.is_plan j y at_y)),
      ))

  group_reported : (make : ℕ → Finding) (i : ℕ) (x : GroupPlan) → slice_get plan.groups.items i ≡ Some x → Holds line.plan (make (p.group i))
      → ((k : ℕ) → meets_any line v (where_together (Group k ∷ [])) ≡ true → meets_any line v (conditions_of_plan line (make k)) ≡ true)
      → IsReported line v (make (place_in_file these.groups.items i))
  group_reported make i x at_x holds goes = subst (λ a. IsReported line v (make a)) (sym (group_is i x at_x))
      (holds, goes (p.group i) (one_met line v (Group (p.group i)) (group_there line v plan has.is_plan i x at_x)))

  flow_stated : (make : ℕ → Finding) (i : ℕ) (x : FlowPlan) → slice_get plan.flows.items i ≡ Some x → Holds line.plan (make (p.flow i))
      → ((k : ℕ) → meets_any line v (where_together (Flow k ∷ [])) ≡ true → meets_any line v (conditions_of_plan line (make k)) ≡ true)
      → IsReported line v (make (place_in_file these.flows.items i))
  flow_stated make i x at_x holds goes = subst (λ a. IsReported line v (make a)) (sym (flow_is i x at_x))
      (holds, goes (p.flow i) (one_met line v (Flow (p.flow i)) (flow_there line v plan has.is_plan i x at_x)))

  flows_reported : (i j : ℕ) → Holds plan (FlowRepeated i j) → IsReported line v
      (FlowRepeated (place_in_file these.flows.items i) (place_in_file these.flows.items j))
  flows_reported i j holds =
      subst (λ a. IsReported line v (FlowRepeated a (place_in_file these.flows.items j))) (sym (flow_is i holds.first holds.first_is))
      (subst (λ b. IsReported line v (FlowRepeated (p.flow i) b)) (sym (flow_is j holds.second holds.second_is)) (
        in_whole (FlowRepeated i j) holds,
        both_met line v (Flow (p.flow i)) (Flow (p.flow j)) (flow_there line v plan has.is_plan i holds.first holds.first_is)
            (flow_there line v plan has.is_plan j holds.second holds.second_is),
      ))

  requests_reported : (i j : ℕ) → Holds plan (RequestRepeated i j)
      → IsReported line v (RequestRepeated (place_in_file these.requests.items i) (place_in_file these.requests.items j))
  requests_reported i j holds =
      subst (λ a. IsReported line v (RequestRepeated a (place_in_file these.requests.items j))) (sym (request_is i holds.first holds.first_is))
      (subst (λ b. IsReported line v (RequestRepeated (p.request i) b)) (sym (request_is j holds.second holds.second_is)) (
        in_whole (RequestRepeated i j) holds,
        both_met line v (Request (p.request i)) (Request (p.request j)) (request_there line v plan has.is_plan i holds.first holds.first_is)
            (request_there line v plan has.is_plan j holds.second holds.second_is),
      ))

  groups_stated : (i j : ℕ) → Holds plan (SamePgn i j) → IsReported line v (SamePgn (place_in_file these.groups.items i) (place_in_file these.groups.items j))
  groups_stated i j holds =
      subst (λ a. IsReported line v (SamePgn a (place_in_file these.groups.items j))) (sym (group_is i holds.first holds.first_is))
      (subst (λ b. IsReported line v (SamePgn (p.group i) b)) (sym (group_is j holds.second holds.second_is))
      (in_whole (SamePgn i j) holds, same_pgn_there line v plan has.is_plan i j holds))

  contested_reported : (i : ℕ) → Holds plan (FlowContested i) → not (has_end_in_pool line (place_in_file these.flows.items i)) ≡ true
      → IsReported line v (FlowContested (place_in_file these.flows.items i))
  contested_reported i holds = subst (λ a. not (has_end_in_pool line a) ≡ true → IsReported line v (FlowContested a))
      (sym (flow_is i holds.value holds.value_is))
      (λ outside. (in_whole (FlowContested i) holds, contested_there line v plan has.is_plan i holds (not-true (has_end_in_pool line (p.flow i)) outside)))

  reported : (x : Finding) → Holds plan x → goes_by_conditions line (OfPlan (finding_in_file these x)) ≡ true
      → comes_by_absence (finding_in_file these x) ≡ false
      → IsReported line v (finding_in_file these x)
  reported (SameName i j) holds goes present =
      units_stated SameName i j holds.first holds.second holds.first_is holds.second_is (in_whole (SameName i j) holds) (λ k l met. met)
  reported (SameFixedAddress i j) holds goes present =
      units_stated SameFixedAddress i j holds.first holds.second holds.first_is holds.second_is (in_whole (SameFixedAddress i j) holds) (λ k l met. met)
  reported (TooFewAddresses n) holds goes present = absurd (false≢true goes)
  reported (BadPgn g) holds goes present = group_reported BadPgn g holds.value holds.value_is (in_whole (BadPgn g) holds) (λ k met. met)
  reported (SamePgn g h) holds goes present = groups_stated g h holds
  reported (SignalWidth g s) holds goes present = group_reported (λ a. SignalWidth a s) g holds.value holds.value_is (in_whole (SignalWidth g s) holds)
      (λ k met. met)
  reported (SignalOutside g s) holds goes present = group_reported (λ a. SignalOutside a s) g holds.value holds.value_is (in_whole (SignalOutside g s) holds)
      (λ k met. met)
  reported (SignalOverlap g s t) holds goes present =
      group_reported (λ a. SignalOverlap a s t) g holds.value holds.value_is (in_whole (SignalOverlap g s t) holds) (λ k met. met)
  reported (FlowToOne f) holds goes present = flow_stated FlowToOne f holds.value holds.value_is (in_whole (FlowToOne f) holds) (λ k met. met)
  reported (FlowToSelf f) holds goes present = flow_stated FlowToSelf f holds.value holds.value_is (in_whole (FlowToSelf f) holds) (λ k met. met)
  reported (FlowRepeated f h) holds goes present = flows_reported f h holds
  reported (KeptAddress i) holds goes present = unit_stated KeptAddress i holds.value holds.value_is (in_whole (KeptAddress i) holds) (λ k met. met)
  reported (PrivateUnsent g) holds goes present = absurd (true≢false present)
  reported (RecordOverlap g s t) holds goes present =
      group_reported (λ a. RecordOverlap a s t) g holds.value holds.value_is (in_whole (RecordOverlap g s t) holds) (λ k met. met)
  reported (TextOutside g t) holds goes present = group_reported (λ a. TextOutside a t) g holds.value holds.value_is (in_whole (TextOutside g t) holds)
      (λ k met. met)
  reported (NeedUnmet d) holds goes present = absurd (true≢false present)
  reported (RequestUnanswered r) holds goes present = absurd (true≢false present)
  reported (RequestUnheard r) holds goes present = absurd (true≢false present)
  reported (AnswerAstray r) holds goes present = absurd (true≢false present)
  reported (WhenOutside g) holds goes present = group_reported WhenOutside g holds.value holds.value_is (in_whole (WhenOutside g) holds) (λ k met. met)
  reported (RequestRepeated r s) holds goes present = requests_reported r s holds
  reported (SilentAddress i j) holds goes present =
      units_stated SilentAddress i j holds.first holds.second holds.first_is holds.second_is (in_whole (SilentAddress i j) holds) (λ k l met. met)
  reported (SilentInPool i) holds goes present = unit_stated SilentInPool i holds.value holds.value_is (in_whole (SilentInPool i) holds) (λ k met. met)
  reported (FlowContested f) holds goes present = contested_reported f holds goes

  -- ---- from the plan of the file to that of the variant

  abbrev Is : Finding → Type 0
  Is finding = IsFound findings (OfPlan finding)

  reported_here : (x : Finding) → Holds plan x → Is (finding_in_file these x)
  reported_here = of_plan_reported line v findings has

  -- at the place that is reported
  unit_here : (make : ℕ → Finding) (u : ℕ) (its : HasPlace p.unit plan.units.items u) → Is (make (place_in_file these.units.items its.i)) → Is (make u)
  unit_here make u its = subst (λ a. Is (make a)) (unit_is its.i its.value its.value_is ∙ its.place_is)

  group_here : (make : ℕ → Finding) (g : ℕ) (its : HasPlace p.group plan.groups.items g) → Is (make (place_in_file these.groups.items its.i)) → Is (make g)
  group_here make g its = subst (λ a. Is (make a)) (group_is its.i its.value its.value_is ∙ its.place_is)

  flow_here : (make : ℕ → Finding) (f : ℕ) (its : HasPlace p.flow plan.flows.items f) → Is (make (place_in_file these.flows.items its.i)) → Is (make f)
  flow_here make f its = subst (λ a. Is (make a)) (flow_is its.i its.value its.value_is ∙ its.place_is)

  -- what stands in the file at the places of the part
  there_at : (make : ℕ → Finding) (place : ℕ → ℕ) {X : Type 0} (xs : List X) (k : ℕ) (its : HasPlace place xs k) → Holds line.plan (make k)
      → Holds line.plan (make (place its.i))
  there_at make place xs k its = subst (λ a. Holds line.plan (make a)) (sym its.place_is)

  unit_back_at : (make : ℕ → Finding) → ((i : ℕ) (x : UnitPlan) → slice_get plan.units.items i ≡ Some x → Holds line.plan (make (p.unit i))
      → Is (make (place_in_file these.units.items i)))
      → (u : ℕ) → Holds line.plan (make u) → meets_any line v (where_together (AUnit u ∷ [])) ≡ true → Is (make u)
  unit_back_at make back u holds met =
      let its = unit_place line v plan has.is_plan u (met_one line v (AUnit u) met) in
      unit_here make u its (back its.i its.value its.value_is (there_at make p.unit plan.units.items u its holds))

  -- two things at their places
  both_back : {X : Type 0} (place : ℕ → ℕ) (xs : List X) (those : List ℕ)
      → ((i : ℕ) (x : X) → slice_get xs i ≡ Some x → place_in_file those i ≡ place i) → (make : ℕ → ℕ → Finding)
      → ((i j : ℕ) (x y : X) → slice_get xs i ≡ Some x → slice_get xs j ≡ Some y → Holds line.plan (make (place i) (place j))
      → Is (make (place_in_file those i) (place_in_file those j)))
      → (a b : ℕ) → HasPlace place xs a → HasPlace place xs b → Holds line.plan (make a b) → Is (make a b)
  both_back place xs those in_file make back a b one other holds =
      subst (λ c. Is (make c b)) (in_file one.i one.value one.value_is ∙ one.place_is)
      (subst (λ c. Is (make (place_in_file those one.i) c)) (in_file other.i other.value other.value_is ∙ other.place_is)
      (back one.i other.i one.value other.value one.value_is other.value_is
      (there_at (make (place one.i)) place xs b other (there_at (λ c. make c b) place xs a one holds))))

  units_back_at : (make : ℕ → ℕ → Finding)
      → ((i j : ℕ) (x y : UnitPlan) → slice_get plan.units.items i ≡ Some x → slice_get plan.units.items j ≡ Some y
      → Holds line.plan (make (p.unit i) (p.unit j))
      → Is (make (place_in_file these.units.items i) (place_in_file these.units.items j)))
      → (u w : ℕ) → Holds line.plan (make u w) → meets_any line v (where_together (AUnit u ∷ AUnit w ∷ [])) ≡ true → Is (make u w)
  units_back_at make back u w holds met =
      let (first, second) = met_both line v (AUnit u) (AUnit w) met in
      both_back p.unit plan.units.items these.units.items unit_is make back u w (unit_place line v plan has.is_plan u first)
      (unit_place line v plan has.is_plan w second) holds

  group_back_at : (make : ℕ → Finding) → ((i : ℕ) (x : GroupPlan) → slice_get plan.groups.items i ≡ Some x → Holds line.plan (make (p.group i))
      → Is (make (place_in_file these.groups.items i)))
      → (g : ℕ) → Holds line.plan (make g) → meets_any line v (where_together (Group g ∷ [])) ≡ true → Is (make g)
  group_back_at make back g holds met =
      let its = group_place line v plan has.is_plan g (met_one line v (Group g) met) in
      group_here make g its (back its.i its.value its.value_is (there_at make p.group plan.groups.items g its holds))

  flow_back_at : (make : ℕ → Finding) → ((i : ℕ) (x : FlowPlan) → slice_get plan.flows.items i ≡ Some x → Holds line.plan (make (p.flow i))
      → Is (make (place_in_file these.flows.items i)))
      → (f : ℕ) → Holds line.plan (make f) → is_flow_there line v f ≡ true → Is (make f)
  flow_back_at make back f holds there =
      let its = flow_place line v plan has.is_plan f there in
      flow_here make f its (back its.i its.value its.value_is (there_at make p.flow plan.flows.items f its holds))

  repeated_back : (f h : ℕ) → Holds line.plan (FlowRepeated f h) → meets_any line v (where_together (Flow f ∷ Flow h ∷ [])) ≡ true → Is (FlowRepeated f h)
  repeated_back f h holds met =
      let (first, second) = met_both line v (Flow f) (Flow h) met in
      both_back p.flow plan.flows.items these.flows.items flow_is FlowRepeated
      (λ i j x y at_x at_y there. reported_here (FlowRepeated i j) (repeated_found p plan line.plan is i j x y at_x at_y there)) f h
      (flow_place line v plan has.is_plan f first) (flow_place line v plan has.is_plan h second) holds

  asked_back : (r s : ℕ) → Holds line.plan (RequestRepeated r s) → meets_any line v (where_together (Request r ∷ Request s ∷ [])) ≡ true
      → Is (RequestRepeated r s)
  asked_back r s holds met =
      let (first, second) = met_both line v (Request r) (Request s) met in
      both_back p.request plan.requests.items these.requests.items request_is RequestRepeated
      (λ i j x y at_x at_y there. reported_here (RequestRepeated i j) (asked_found p plan line.plan is i j x y at_x at_y there)) r s
      (request_place line v plan has.is_plan r first) (request_place line v plan has.is_plan s second) holds

  same_pgn_back : (g h : ℕ) → Holds line.plan (SamePgn g h) → meets_any line v (conditions_of_groups line g h) ≡ true → Is (SamePgn g h)
  same_pgn_back g h holds met =
      let (first, second) = groups_of line v g h met in
      let one = group_place line v plan has.is_plan g first in
      let other = group_place line v plan has.is_plan h second in
      group_here (λ a. SamePgn a h) g one (group_here (λ b. SamePgn (place_in_file these.groups.items one.i) b) h other
      (reported_here (SamePgn one.i other.i) (there_same_pgn line v plan has.is_plan one.i other.i one.value other.value one.value_is other.value_is
      (there_at (SamePgn (p.group one.i)) p.group plan.groups.items h other (there_at (λ a. SamePgn a h) p.group plan.groups.items g one holds))
      (subst (λ b. meets_any line v (conditions_of_groups line (p.group one.i) b) ≡ true) (sym other.place_is)
      (subst (λ a. meets_any line v (conditions_of_groups line a h) ≡ true) (sym one.place_is) met)))))

  contested_back : (f : ℕ) → meets_any line v (conditions_of_plan line (FlowContested f)) ≡ true → Is (FlowContested f)
  contested_back f met =
      let its = flow_place line v plan has.is_plan f (contested_flow line v f met) in
      flow_here FlowContested f its (reported_here (FlowContested its.i) (there_contested line v plan has.is_plan its.i its.value its.value_is
      (subst (λ a. meets_any line v (conditions_of_plan line (FlowContested a)) ≡ true) (sym its.place_is) met)))

  -- of a group that stands there as it is here
  group_found : (make : ℕ → Finding) (P Q : GroupPlan → Type 0) → ((g h : GroupPlan) → IsGroupThere h g → Q h → P g)
      → ((k : ℕ) → Holds line.plan (make k) → ValueAt Q line.plan.groups.items k)
      → ((i : ℕ) → ValueAt P plan.groups.items i → Is (make (place_in_file these.groups.items i))) → (g : ℕ) → Holds line.plan (make g)
      → meets_any line v (where_together (Group g ∷ [])) ≡ true → Is (make g)
  group_found make P Q over there here = group_back_at make (λ i x at_x holds. here i
      (group_back p plan line.plan is P Q over i x at_x (there (p.group i) holds)))

  back : (x : Finding) → Holds line.plan x → meets_any line v (conditions_of_plan line x) ≡ true → comes_by_absence x ≡ false → Is x
  back (SameName i j) holds met present =
      units_back_at SameName (λ a b x y at_x at_y there. reported_here (SameName a b)
      (units_back p plan line.plan is MayBeOne a b x y at_x at_y there)) i j holds met
  back (SameFixedAddress i j) holds met present =
      units_back_at SameFixedAddress (λ a b x y at_x at_y there. reported_here (SameFixedAddress a b)
      (units_back p plan line.plan is HaveSameFixedAddress a b x y at_x at_y there)) i j holds met
  back (TooFewAddresses n) holds met present = absurd (false≢true met)
  back (BadPgn g) holds met present =
      group_found BadPgn _ _ (λ x y same. bad_pgn y x same) (λ k there. there) (λ i here. reported_here (BadPgn i) here) g holds met
  back (SamePgn g h) holds met present = same_pgn_back g h holds met
  back (SignalWidth g s) holds met present =
      group_found (λ a. SignalWidth a s) _ _ (λ x y same. width y x same s (λ signal. ¬ WidthFits signal)) (λ k there. there)
      (λ i here. reported_here (SignalWidth i s) here) g holds met
  back (SignalOutside g s) holds met present =
      group_found (λ a. SignalOutside a s) _ _ (λ x y same. outside y x same s) (λ k there. there)
      (λ i here. reported_here (SignalOutside i s) here) g holds met
  back (SignalOverlap g s t) holds met present =
      group_found (λ a. SignalOverlap a s t) _ _ (λ x y same. overlap y x same s t SharesBit) (λ k there. there)
      (λ i here. reported_here (SignalOverlap i s t) here) g holds met
  back (FlowToOne f) holds met present = flow_back_at FlowToOne (λ i x at_x there. reported_here (FlowToOne i)
      (to_one_found p plan line.plan is i x at_x there)) f holds
      (met_one line v (Flow f) met)
  back (FlowToSelf f) holds met present = flow_back_at FlowToSelf
      (λ i x at_x there. reported_here (FlowToSelf i) (to_self_found p plan line.plan is i x at_x there)) f holds
      (met_one line v (Flow f) met)
  back (FlowRepeated f h) holds met present = repeated_back f h holds met
  back (KeptAddress i) holds met present = unit_back_at KeptAddress (λ a x at_x there. reported_here (KeptAddress a)
      (subst (λ kept. ValueAt (PrefersKept kept) plan.units.items a) (sym is.keep_free)
      (unit_back p plan line.plan is (PrefersKept line.plan.keep_free) a x at_x there))) i holds met
  back (PrivateUnsent g) holds met present = absurd (true≢false present)
  back (RecordOverlap g s t) holds met present =
      group_found (λ a. RecordOverlap a s t) _ _ (λ x y same. records y x same s t) (λ k there. there)
      (λ i here. reported_here (RecordOverlap i s t) here) g holds met
  back (TextOutside g t) holds met present =
      group_found (λ a. TextOutside a t) _ _ (λ x y same. text_outside y x same t) (λ k there. there)
      (λ i here. reported_here (TextOutside i t) here) g holds met
  back (NeedUnmet d) holds met present = absurd (true≢false present)
  back (RequestUnanswered r) holds met present = absurd (true≢false present)
  back (RequestUnheard r) holds met present = absurd (true≢false present)
  back (AnswerAstray r) holds met present = absurd (true≢false present)
  back (WhenOutside g) holds met present =
      group_found WhenOutside _ _ (λ x y same. selector_outside y x same) (λ k there. there) (λ i here. reported_here (WhenOutside i) here) g holds met
  back (RequestRepeated r s) holds met present = asked_back r s holds met
  back (SilentAddress i j) holds met present =
      units_back_at SilentAddress (λ a b x y at_x at_y there. reported_here (SilentAddress a b)
      (units_back p plan line.plan is HaveSilentAddress a b x y at_x at_y there)) i j holds met
  back (SilentInPool i) holds met present = unit_back_at SilentInPool (λ a x at_x there. reported_here (SilentInPool a)
      (subst (λ n. ValueAt (IsSilentInPool plan.keep_free n) plan.units.items a) (sym is.strangers)
      (subst (λ kept. ValueAt (IsSilentInPool kept line.plan.strangers) plan.units.items a) (sym is.keep_free)
      (unit_back p plan line.plan is (IsSilentInPool line.plan.keep_free line.plan.strangers) a x at_x there)))) i holds met
  back (FlowContested f) holds met present = contested_back f met

  -- ---- both ways

  -- what is found is of the plan, where it isn't missed
  of_plan : (x : Finding) → comes_by_absence x ≡ false → Is x → (y : Finding) × Holds plan y × (finding_in_file these y ≡ x)
  of_plan x present one = elim (in_plan line v findings has x one) [
    | inl here ↦ here
    | inr (d, among, same) ↦ absurd (true≢false (ap comes_by_absence same ∙ present))
  ]

  pub plan_reported : (x : Finding) → goes_by_conditions line (OfPlan x) ≡ true → comes_by_absence x ≡ false → Is x → IsFoundOfParts line v (OfPlan x)
  plan_reported x goes present one =
      let (y, holds, same) = of_plan x present one in
      let (there, met) = subst (λ z. goes_by_conditions line (OfPlan z) ≡ true → comes_by_absence z ≡ false → IsReported line v z) same
      (reported y holds) goes present in
      ((are_findings line.plan).complete x there, met)

  pub reported_plan : (x : Finding) → comes_by_absence x ≡ false → IsFoundOfParts line v (OfPlan x) → Is x
  reported_plan x present (there, met) = back x ((are_findings line.plan).sound x there) met present
