-- The same flows of the file meet a need in a variant and in one that covers it for the need.
use Rattle.std.specs.declared.alloc.Global.{Global}
use Rattle.std.proofs.Common.{◌≡◌, ℕ, zero, suc, ◌+◌, ◌<◌, Bool, true, false, not, ◌&&◌, ◌||◌, List, [], ◌∷◌, length, Option, Some, None, is_some, Vec, refl}
use Rattle.std.proofs.Common.{sym, ◌∙◌, ap, inl, inr, arith}
use Rattle.std.specs.List.{range_with_len, slice_get}
use Rattle.std.specs.Option.{option_map_or}
use Rattle.std.proofs.lemmas.Bool.{and_from, and_parts, cases_Bool, false≢true, or_left, or_right}
use Rattle.std.proofs.lemmas.Option.{slice_get_within}
use Rattle.j39_network.specs.Serving.{is_asked_for, meets, serves, serves_some}
use Rattle.j39_network.specs.declared.plan.Plan.{Plan}
use Rattle.j39_network.specs.declared.plan.flow_plan.FlowPlan.{FlowPlan}
use Rattle.j39_network.specs.declared.plan.need_plan.NeedPlan.{NeedPlan}
use Rattle.j39_network.specs.declared.plan.request_plan.RequestPlan.{RequestPlan}
use Rattle.j39_network.specs.declared.plan.to.To.{To}
use Rattle.j39_network.specs.declared.plan.to.To.TheVariants.{All, One}
use Rattle.j39_variants.specs.declared.line.Alternative.{Alternative}
use Rattle.j39_variants.specs.declared.line.ProductLine.{ProductLine}
use Rattle.j39_variants.specs.VariantPlans.{flag_at, flags, group_places, IsVariantPlan, moved_flow, moved_need, moved_receivers, moved_request, picked}
use Rattle.j39_variants.specs.VariantPlans.{place_at, unit_places}
use Rattle.j39_variants.specs.Variants.{IsVariant}
use Rattle.j39_line_findings.specs.Boxes.{flow_admits, request_admits}
use Rattle.j39_line_findings.specs.FullVariants.{agree_on_need, alternative_at, alternatives_of, provides, is_covered}
use Rattle.j39_line_findings.specs.MissedNeeds.{is_group_there, is_in_at, is_need_asked_for, is_unit_there}
use Rattle.j39_line_findings.specs.There.{is_flow_there, is_receiver_there, is_request_there}
use Rattle.j39_line_findings.specs.declared.part.LinePart.TheVariants.{Flow, Need, Request}
use Rattle.j39_line_laws.specs.Covering.{IsCoveredBy, IsCoveredFor}
use Rattle.j39_line_laws.proofs.Agreeing.{answer_agrees, one-answer-back, sending_agrees}
use Rattle.j39_line_findings.proofs.Tests.{any_at, at_any}
use Rattle.j39_line_laws.proofs.VariantBoxes.{AreFewer}
use Rattle.j39_line_laws.proofs.Filtering.{flow_test, request_test, test_in}
use Rattle.j39_line_laws.proofs.Parts.{flow_of, flows_fewer, groups_fewer, requests_fewer, units_fewer}
use Rattle.j39_line_laws.proofs.Picking.{kept}
use Rattle.j39_line_laws.specs.FullForNeeds.{IsAnswerIn, MeetsIn}
use Rattle.j39_line_laws.proofs.InBoxes.{meet_by, part_by, part_lets}
use Rattle.j39_line_laws.proofs.Origins.{comes_from, stands_at}
use Rattle.j39_line_laws.proofs.PlacedTests.{brings_same, meets_by, serves_same}

some_from : {X : Type 0} (o : Option X) → is_some o ≡ true → (x : X) × (o ≡ Some x)
some_from None none = absurd (false≢true none)
some_from (Some x) some = (x, refl)

-- ---- what is there in a variant is there in each one that covers it

fewer_at : (bs cs : List Bool) → AreFewer bs cs → (i : ℕ) → flag_at bs i ≡ true → flag_at cs i ≡ true
fewer_at [] cs fewer zero flagged = absurd (false≢true flagged)
fewer_at [] cs fewer (suc i) flagged = absurd (false≢true flagged)
fewer_at (b ∷ bs) [] fewer i flagged = absurd fewer
fewer_at (b ∷ bs) (c ∷ cs) fewer zero flagged = fewer.0 flagged
fewer_at (b ∷ bs) (c ∷ cs) fewer (suc i) flagged = fewer_at bs cs fewer.1 i flagged

there_by : (v w : List ℕ) (lists : List (Vec Alternative Global)) → AreFewer (flags v lists) (flags w lists) → (i : ℕ) → is_in_at v lists i ≡ true
    → is_in_at w lists i ≡ true
there_by v w lists fewer i there =
    test_in w lists i ∙ fewer_at (flags v lists) (flags w lists) fewer i (sym (test_in v lists i) ∙ there)

module _ (line : ProductLine) (v w : List ℕ) (covered : IsCoveredBy line v w) where
  pub unit_too : (u : ℕ) → is_unit_there line v u ≡ true → is_unit_there line w u ≡ true
  unit_too = there_by v w line.lists.units.items (units_fewer line v w covered)

  pub group_too : (g : ℕ) → is_group_there line v g ≡ true → is_group_there line w g ≡ true
  group_too = there_by v w line.lists.groups.items (groups_fewer line v w covered)

  receiver_too : (to : To) → is_receiver_there line v to ≡ true → is_receiver_there line w to ≡ true
  receiver_too All there = refl
  receiver_too (One u) there = unit_too u there

  -- what names its group, its sender and its receiver
  named_too : (own also : Bool) → (own ≡ true → also ≡ true) → (g s : ℕ) (to : To)
      → (own && (is_group_there line v g && (is_unit_there line v s && is_receiver_there line v to))) ≡ true
      → (also && (is_group_there line w g && (is_unit_there line w s && is_receiver_there line w to))) ≡ true
  named_too own also here g s to all =
      let (first, others) = and_parts own (is_group_there line v g && (is_unit_there line v s && is_receiver_there line v to)) all in
      let (second, rest) = and_parts (is_group_there line v g) (is_unit_there line v s && is_receiver_there line v to) others in
      let (third, fourth) = and_parts (is_unit_there line v s) (is_receiver_there line v to) rest in
      and_from also _ (here first) (and_from _ _ (group_too g second) (and_from _ _ (unit_too s third) (receiver_too to fourth)))

  some_too : {X : Type 0} (p q : X → Bool) → ((x : X) → p x ≡ true → q x ≡ true) → (o : Option X) → option_map_or p o false ≡ true
      → option_map_or q o false ≡ true
  some_too p q each None none = none
  some_too p q each (Some x) is = each x is

  pub flow_too : (f : ℕ) → is_flow_there line v f ≡ true → is_flow_there line w f ≡ true
  flow_too f = some_too _ _ (λ (flow : FlowPlan). named_too _ _ (there_by v w line.lists.flows.items
      (flows_fewer line v w covered) f) flow.group flow.sender flow.to)
      (slice_get line.plan.flows.items f)

  pub request_too : (r : ℕ) → is_request_there line v r ≡ true → is_request_there line w r ≡ true
  request_too r = some_too _ _ (λ (request : RequestPlan). named_too _ _ (there_by v w line.lists.requests.items (requests_fewer line v w covered) r)
      request.group request.sender request.to) (slice_get line.plan.requests.items r)

  pub meets_too : (need : NeedPlan) (f : ℕ) → MeetsIn line v need f → MeetsIn line w need f
  meets_too need f its = record {
    flow = its.flow;
    flow_is = its.flow_is;
    brings = its.brings;
    there = flow_too f its.there;
    asked = λ only.
        let answer = its.asked only in
        record { r = answer.r; request = answer.request; request_is = answer.request_is; serves_it = answer.serves_it; there = request_too answer.r answer.there };
  }

-- ---- and back, where these agree on what the need is for

module _ (line : ProductLine) (v w : List ℕ) (is_v : IsVariant line.choices.items v) (is_w : IsVariant line.choices.items w) (d : ℕ)
    (covered : IsCoveredFor line (Some d) v w) (asked : is_need_asked_for line w d ≡ true) (need : NeedPlan)
    (at_d : slice_get line.plan.needs.items d ≡ Some need) where
  agree : (c p q : ℕ) → (is_covered line (alternative_at c p) (alternative_at c q)
      && agree_on_need line (alternatives_of line) d (alternative_at c p) (alternative_at c q)) ≡ true
      → agree_on_need line (alternatives_of line) d (alternative_at c p) (alternative_at c q) ≡ true
  agree c p q covers = (and_parts (is_covered line (alternative_at c p) (alternative_at c q))
      (agree_on_need line (alternatives_of line) d (alternative_at c p) (alternative_at c q)) covers).1

  module _ (f : ℕ) (flow : FlowPlan) (at_f : slice_get line.plan.flows.items f ≡ Some flow) (brings : provides need flow ≡ true)
      (there : is_flow_there line w f ≡ true) where
    below : f < length line.plan.flows.items
    below = slice_get_within line.plan.flows.items f flow at_f

    sent_here : flow.on_request ≡ false → is_flow_there line v f ≡ true
    sent_here by_itself = part_by line w v is_w is_v (Flow f) (λ c p at_p.
        let (q, at_q, covers) = covered c p at_p in
        let meet = meet_by line w is_w (Need d) (Flow f) (Flow f) (part_lets line w is_w (Need d) asked) (part_lets line w is_w (Flow f) there)
        (part_lets line w is_w (Flow f) there) in
        one-answer-back (flow_admits line (alternative_at c p) f) (flow_admits line (alternative_at c q) f)
        (sending_agrees line (alternatives_of line) d (alternative_at c p) (alternative_at c q) need at_d f flow at_f brings
        (agree c p q covers) below by_itself meet)
        (part_lets line w is_w (Flow f) there c q at_q)) there

    module _ (only : flow.on_request ≡ true) (answer : IsAnswerIn line w flow) where
      abbrev r : ℕ
      r = answer.r

      both_let : (c p : ℕ) → slice_get v c ≡ Some p → (flow_admits line (alternative_at c p) f && request_admits line (alternative_at c p) r) ≡ true
      both_let c p at_p =
          let (q, at_q, covers) = covered c p at_p in
          let meet = meet_by line w is_w (Need d) (Flow f) (Request r) (part_lets line w is_w (Need d) asked) (part_lets line w is_w (Flow f) there)
          (part_lets line w is_w (Request r) answer.there) in
          one-answer-back (flow_admits line (alternative_at c p) f && request_admits line (alternative_at c p) r)
          (flow_admits line (alternative_at c q) f && request_admits line (alternative_at c q) r)
          (answer_agrees line (alternatives_of line) d (alternative_at c p) (alternative_at c q) need at_d f flow at_f brings (agree c p q covers) below only r
          answer.request answer.request_is (slice_get_within line.plan.requests.items r answer.request answer.request_is) answer.serves_it meet)
          (and_from _ _ (part_lets line w is_w (Flow f) there c q at_q) (part_lets line w is_w (Request r) answer.there c q at_q))

      answer_here : is_flow_there line v f ≡ true
      answer_here = part_by line w v is_w is_v (Flow f) (λ c p at_p.
          (and_parts (flow_admits line (alternative_at c p) f) (request_admits line (alternative_at c p) r) (both_let c p at_p)).0) there

      request_here : is_request_there line v r ≡ true
      request_here = part_by line w v is_w is_v (Request r) (λ c p at_p.
          (and_parts (flow_admits line (alternative_at c p) f) (request_admits line (alternative_at c p) r) (both_let c p at_p)).1) answer.there

  pub meets_back : (f : ℕ) → MeetsIn line w need f → MeetsIn line v need f
  meets_back f its = elim (cases_Bool its.flow.on_request) [
    | inr by_itself ↦ record {
      flow = its.flow;
      flow_is = its.flow_is;
      brings = its.brings;
      there = sent_here f its.flow its.flow_is its.brings its.there by_itself;
      asked = λ only. absurd (false≢true (sym by_itself ∙ only));
    }
    | inl only ↦
        let answer = its.asked only in
        record {
          flow = its.flow;
          flow_is = its.flow_is;
          brings = its.brings;
          there = answer_here f its.flow its.flow_is its.brings its.there only answer;
          asked = λ also. record {
            r = answer.r;
            request = answer.request;
            request_is = answer.request_is;
            serves_it = answer.serves_it;
            there = request_here f its.flow its.flow_is its.brings its.there only answer;
          };
        }
  ]

-- ---- in the plan of a variant

module _ (line : ProductLine) (v : List ℕ) (plan : Plan) (is : IsVariantPlan line v plan) (need e : NeedPlan)
    (made : moved_need (unit_places line v) (group_places line v) need ≡ Some e) where
  abbrev move : FlowPlan → Option FlowPlan
  move = moved_flow (unit_places line v) (group_places line v)

  abbrev ask : RequestPlan → Option RequestPlan
  ask = moved_request (unit_places line v) (group_places line v)

  abbrev pub files_at : ℕ → Option ℕ
  files_at i = slice_get (picked (kept move (flags v line.lists.flows.items) line.plan.flows.items) (range_with_len 0 (length line.plan.flows.items))) i

  -- a flow of the plan that meets the need comes of one of the file that does
  pub of_file : (i : ℕ) (y : FlowPlan) → slice_get plan.flows.items i ≡ Some y → meets plan.requests.items e y ≡ true
      → (f : ℕ) × MeetsIn line v need f × (files_at i ≡ Some f)
  of_file i y at_i met =
      let its = comes_from move (flags v line.lists.flows.items) line.plan.flows.items 0 i y (ap (λ l. slice_get l i) (sym is.has_flows) ∙ at_i) in
      let (brings, comes) = and_parts (provides e y) (is_asked_for plan.requests.items y) (sym (meets_by plan.requests.items e y) ∙ met) in
      let moved = flow_of its.value (place_at (group_places line v) its.value.group) (place_at (unit_places line v) its.value.sender)
      (moved_receivers (unit_places line v) its.value.to) y its.made in (
        its.k,
        record {
          flow = its.value;
          flow_is = its.value_is;
          brings = sym (brings_same line v need e its.value y made its.made) ∙ brings;
          there = flow_test line v its.k its.value its.value_is ∙ and_from _ _ its.flagged (ap is_some its.made);
          asked = λ only. answered its.value its.made (sym (ap (λ b. not b || serves_some plan.requests.items y) (sym moved.on_request ∙ only)) ∙ comes);
        },
        its.place ∙ ap Some (let n : 0 + its.k ≡ its.k = omega arith in n),
      )
    where
      answered : (x : FlowPlan) → move x ≡ Some y → serves_some plan.requests.items y ≡ true → IsAnswerIn line v x
      answered x moved some =
          let one = any_at (λ request. serves request y) plan.requests.items some in
          let its = comes_from ask (flags v line.lists.requests.items) line.plan.requests.items 0 one.i one.value
          (ap (λ l. slice_get l one.i) (sym is.has_requests) ∙ one.value_is) in
          record {
            r = its.k;
            request = its.value;
            request_is = its.value_is;
            serves_it = sym (serves_same line v x y its.value one.value moved its.made) ∙ one.passes;
            there = request_test line v its.k its.value its.value_is ∙ and_from _ _ its.flagged (ap is_some its.made);
          }

  pub record IsSourceInPlan (f : ℕ) : Type 0 where
    pub i : ℕ
    pub flow : FlowPlan
    pub at : slice_get plan.flows.items i ≡ Some flow
    pub met : meets plan.requests.items e flow ≡ true
    pub place : files_at i ≡ Some f

  -- and each of those of the file that meet it stands in the plan
  pub in_plan : (f : ℕ) → MeetsIn line v need f → IsSourceInPlan f
  in_plan f its =
      let (flagged, some) = and_parts (flag_at (flags v line.lists.flows.items) f) (is_some (move its.flow))
      (sym (flow_test line v f its.flow its.flow_is) ∙ its.there) in
      let (y, moved) = some_from (move its.flow) some in
      let stands = stands_at move (flags v line.lists.flows.items) line.plan.flows.items 0 f its.flow y its.flow_is flagged moved in
      let parts = flow_of its.flow (place_at (group_places line v) its.flow.group) (place_at (unit_places line v) its.flow.sender)
      (moved_receivers (unit_places line v) its.flow.to) y moved in
      record {
        i = stands.j;
        flow = y;
        at = ap (λ l. slice_get l stands.j) is.has_flows ∙ stands.at;
        met = meets_by plan.requests.items e y ∙ and_from _ _ (brings_same line v need e its.flow y made moved ∙ its.brings) (comes y moved parts.on_request);
        place = stands.place ∙ ap Some (let n : 0 + f ≡ f = omega arith in n);
      }
    where
      comes : (y : FlowPlan) → move its.flow ≡ Some y → its.flow.on_request ≡ y.on_request → is_asked_for plan.requests.items y ≡ true
      comes y moved same = elim (cases_Bool y.on_request) [
        | inr by_itself ↦ or_left (not y.on_request) _ (ap not by_itself)
        | inl only ↦
            let answer = its.asked (same ∙ only) in
            let (flagged, some) = and_parts (flag_at (flags v line.lists.requests.items) answer.r) (is_some (ask answer.request))
            (sym (request_test line v answer.r answer.request answer.request_is) ∙ answer.there) in
            let (q, asked) = some_from (ask answer.request) some in
            let stands = stands_at ask
            (flags v line.lists.requests.items) line.plan.requests.items 0 answer.r answer.request q answer.request_is flagged asked in
            or_right (not y.on_request) (serves_some plan.requests.items y)
            (at_any (λ request. serves request y) plan.requests.items stands.j q (ap (λ l. slice_get l stands.j) is.has_requests ∙ stands.at)
            (serves_same line v its.flow y answer.request q moved asked ∙ answer.serves_it))
      ]
