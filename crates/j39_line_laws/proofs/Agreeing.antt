-- To agree on what brings what is needed is transitive, and each alternative agrees with itself.
use Rattle.std.proofs.Common.{◌≡◌, ℕ, zero, suc, ◌+◌, ◌<◌, Bool, true, false, not, ◌&&◌, ◌||◌, if◌then◌else◌, List, [], ◌∷◌, length, Option, Some, None, refl}
use Rattle.std.proofs.Common.{sym, ◌∙◌, ap, arith}
use Rattle.std.specs.List.{list_all, range_with_len, slice_get}
use Rattle.std.specs.Option.{option_map_or}
use Rattle.std.proofs.lemmas.Bool.{and_from, and_parts, false≢true}
use Rattle.j39_network.specs.Serving.{serves}
use Rattle.j39_network.specs.declared.plan.flow_plan.FlowPlan.{FlowPlan}
use Rattle.j39_network.specs.declared.plan.need_plan.NeedPlan.{NeedPlan}
use Rattle.j39_network.specs.declared.plan.request_plan.RequestPlan.{RequestPlan}
use Rattle.j39_variants.specs.declared.line.Alternative.{Alternative}
use Rattle.j39_variants.specs.declared.line.ProductLine.{ProductLine}
use Rattle.j39_line_findings.specs.Boxes.{are_one_answer, do_overlap, flow_admits, request_admits}
use Rattle.j39_line_findings.specs.FullVariants.{agree_on_answer, agree_on_answers, agree_on_flow, agree_on_flows, agree_on_need, agree_on_sending, provides}
use Rattle.j39_line_findings.specs.declared.part.LinePart.TheVariants.{Flow, Need, Request}
use Rattle.j39_line_findings.proofs.Tests.{all_at}

-- ---- answers

one-answer-refl : (b : Bool) → are_one_answer b b ≡ true
one-answer-refl true = refl
one-answer-refl false = refl

one-answer-trans : (a b c : Bool) → are_one_answer a b ≡ true → are_one_answer b c ≡ true → are_one_answer a c ≡ true
one-answer-trans true true c one two = two
one-answer-trans true false c one two = absurd (false≢true one)
one-answer-trans false false c one two = two
one-answer-trans false true c one two = absurd (false≢true one)

pub one-answer-back : (a b : Bool) → are_one_answer a b ≡ true → b ≡ true → a ≡ true
one-answer-back true b one is = refl
one-answer-back false true one is = absurd (false≢true one)
one-answer-back false false one is = absurd (false≢true is)

-- ---- tests

or-refl : (m p : Bool) → p ≡ true → (m || p) ≡ true
or-refl true p is = refl
or-refl false p is = is

or-lift : (m p q r : Bool) → (p ≡ true → q ≡ true → r ≡ true) → (m || p) ≡ true → (m || q) ≡ true → (m || r) ≡ true
or-lift true p q r leads one two = refl
or-lift false p q r leads one two = leads one two

if-refl : (b p q : Bool) → p ≡ true → q ≡ true → (if b then p else q) ≡ true
if-refl true p q first second = first
if-refl false p q first second = second

if-lift : (b p q r s t u : Bool) → (p ≡ true → q ≡ true → r ≡ true) → (s ≡ true → t ≡ true → u ≡ true) → (if b then p else s) ≡ true
    → (if b then q else t) ≡ true
    → (if b then r else u) ≡ true
if-lift true p q r s t u leads others one two = leads one two
if-lift false p q r s t u leads others one two = others one two

option-refl : {X : Type 0} (P : X → Bool) → ((x : X) → P x ≡ true) → (o : Option X) → option_map_or P o true ≡ true
option-refl P each None = refl
option-refl P each (Some x) = each x

option-lift : {X : Type 0} (P Q R : X → Bool) → ((x : X) → P x ≡ true → Q x ≡ true → R x ≡ true) → (o : Option X) → option_map_or P o true ≡ true
    → option_map_or Q o true ≡ true → option_map_or R o true ≡ true
option-lift P Q R leads None one two = refl
option-lift P Q R leads (Some x) one two = leads x one two

all-refl : {X : Type 0} (P : X → Bool) → ((x : X) → P x ≡ true) → (xs : List X) → list_all P xs ≡ true
all-refl P each [] = refl
all-refl P each (x ∷ xs) = and_from (P x) (list_all P xs) (each x) (all-refl P each xs)

all-lift : {X : Type 0} (P Q R : X → Bool) → ((x : X) → P x ≡ true → Q x ≡ true → R x ≡ true) → (xs : List X) → list_all P xs ≡ true → list_all Q xs ≡ true
    → list_all R xs ≡ true
all-lift P Q R leads [] one two = refl
all-lift P Q R leads (x ∷ xs) one two =
    let (first, rest) = and_parts (P x) (list_all P xs) one in
    let (second, more) = and_parts (Q x) (list_all Q xs) two in
    and_from (R x) (list_all R xs) (leads x first second) (all-lift P Q R leads xs rest more)

pub range_at : (a n k : ℕ) → k < n → slice_get (range_with_len a n) k ≡ Some (a + k)
range_at a zero k below = absurd (omega (arith, below))
range_at a (suc n) zero below = ap Some (let e : a ≡ a + 0 = omega arith in e)
range_at a (suc n) (suc k) below = range_at (a + 1) n k (omega (arith, below)) ∙ ap Some (let e : a + 1 + k ≡ a + suc k = omega arith in e)

all_in_range : (P : ℕ → Bool) (n k : ℕ) → k < n → list_all P (range_with_len 0 n) ≡ true → P k ≡ true
all_in_range P n k below all =
    all_at P (range_with_len 0 n) all k k (range_at 0 n k below ∙ ap Some (let e : 0 + k ≡ k = omega arith in e))

module _ (line : ProductLine) (alternatives : List Alternative) (d : ℕ) where
  abbrev answers : Alternative → Alternative → ℕ → FlowPlan → ℕ → RequestPlan → Bool
  answers a b f flow r request = not (serves request flow) || (not (do_overlap line alternatives (Need d) (Flow f) (Request r))
      || are_one_answer (flow_admits line a f && request_admits line a r) (flow_admits line b f && request_admits line b r))

  abbrev brings : Alternative → Alternative → NeedPlan → ℕ → FlowPlan → Bool
  brings a b need f flow = not (provides need flow) || (if flow.on_request
      then agree_on_answers line alternatives d a b f flow
      else agree_on_sending line alternatives d a b f)

  -- ---- an alternative agrees with itself

  module _ (a : Alternative) where
    answer-refl : (f : ℕ) (flow : FlowPlan) (r : ℕ) → agree_on_answer line alternatives d a a f flow r ≡ true
    answer-refl f flow r = option-refl (answers a a f flow r)
        (λ request. or-refl (not (serves request flow)) _ (or-refl (not (do_overlap line alternatives (Need d) (Flow f) (Request r))) _
        (one-answer-refl (flow_admits line a f && request_admits line a r))))
        (slice_get line.plan.requests.items r)

    answers-refl : (f : ℕ) (flow : FlowPlan) → agree_on_answers line alternatives d a a f flow ≡ true
    unfolding agree_on_answers
    answers-refl f flow = all-refl (agree_on_answer line alternatives d a a f flow) (answer-refl f flow) (range_with_len 0 (length line.plan.requests.items))

    flow-refl : (need : NeedPlan) (f : ℕ) → agree_on_flow line alternatives d a a need f ≡ true
    flow-refl need f = option-refl (brings a a need f)
        (λ flow. or-refl (not (provides need flow)) _ (if-refl flow.on_request _ _ (answers-refl f flow)
        (or-refl (not (do_overlap line alternatives (Need d) (Flow f) (Flow f))) _ (one-answer-refl (flow_admits line a f)))))
        (slice_get line.plan.flows.items f)

    flows-refl : (need : NeedPlan) → agree_on_flows line alternatives d a a need ≡ true
    unfolding agree_on_flows
    flows-refl need = all-refl (agree_on_flow line alternatives d a a need) (flow-refl need) (range_with_len 0 (length line.plan.flows.items))

    pub agree-refl : agree_on_need line alternatives d a a ≡ true
    unfolding agree_on_need
    agree-refl = option-refl (agree_on_flows line alternatives d a a) flows-refl (slice_get line.plan.needs.items d)

  -- ---- and with those with which one agrees with which it agrees

  module _ (a b c : Alternative) where
    answer-trans : (f : ℕ) (flow : FlowPlan) (r : ℕ) → agree_on_answer line alternatives d a b f flow r ≡ true
        → agree_on_answer line alternatives d b c f flow r ≡ true
        → agree_on_answer line alternatives d a c f flow r ≡ true
    answer-trans f flow r = option-lift (answers a b f flow r) (answers b c f flow r) (answers a c f flow r)
        (λ request. or-lift (not (serves request flow)) _ _ _ (or-lift (not (do_overlap line alternatives (Need d) (Flow f) (Request r))) _ _ _
        (one-answer-trans (flow_admits line a f && request_admits line a r) (flow_admits line b f && request_admits line b r)
        (flow_admits line c f && request_admits line c r))))
        (slice_get line.plan.requests.items r)

    answers-trans : (f : ℕ) (flow : FlowPlan) → agree_on_answers line alternatives d a b f flow ≡ true → agree_on_answers line alternatives d b c f flow ≡ true
        → agree_on_answers line alternatives d a c f flow ≡ true
    unfolding agree_on_answers
    answers-trans f flow = all-lift (agree_on_answer line alternatives d a b f flow) (agree_on_answer line alternatives d b c f flow)
        (agree_on_answer line alternatives d a c f flow) (answer-trans f flow) (range_with_len 0 (length line.plan.requests.items))

    flow-trans : (need : NeedPlan) (f : ℕ) → agree_on_flow line alternatives d a b need f ≡ true → agree_on_flow line alternatives d b c need f ≡ true
        → agree_on_flow line alternatives d a c need f ≡ true
    flow-trans need f = option-lift (brings a b need f) (brings b c need f) (brings a c need f)
        (λ flow. or-lift (not (provides need flow)) _ _ _ (if-lift flow.on_request _ _ _ _ _ _ (answers-trans f flow)
        (or-lift (not (do_overlap line alternatives (Need d) (Flow f) (Flow f))) _ _ _
        (one-answer-trans (flow_admits line a f) (flow_admits line b f) (flow_admits line c f)))))
        (slice_get line.plan.flows.items f)

    flows-trans : (need : NeedPlan) → agree_on_flows line alternatives d a b need ≡ true → agree_on_flows line alternatives d b c need ≡ true
        → agree_on_flows line alternatives d a c need ≡ true
    unfolding agree_on_flows
    flows-trans need = all-lift (agree_on_flow line alternatives d a b need) (agree_on_flow line alternatives d b c need)
        (agree_on_flow line alternatives d a c need) (flow-trans need) (range_with_len 0 (length line.plan.flows.items))

    pub agree-trans : agree_on_need line alternatives d a b ≡ true → agree_on_need line alternatives d b c ≡ true → agree_on_need line alternatives d a c ≡ true
    unfolding agree_on_need
    agree-trans = option-lift (agree_on_flows line alternatives d a b) (agree_on_flows line alternatives d b c) (agree_on_flows line alternatives d a c)
        flows-trans (slice_get line.plan.needs.items d)

  -- ---- on what they agree

  module _ (a b : Alternative) (need : NeedPlan) (at_d : slice_get line.plan.needs.items d ≡ Some need) (f : ℕ) (flow : FlowPlan)
      (at_f : slice_get line.plan.flows.items f ≡ Some flow) (brought : provides need flow ≡ true) (agree : agree_on_need line alternatives d a b ≡ true)
      (below : f < length line.plan.flows.items) where
    agreed : (if flow.on_request then agree_on_answers line alternatives d a b f flow else agree_on_sending line alternatives d a b f) ≡ true
    unfolding agree_on_need agree_on_flows
    agreed =
        let flows = sym (ap (λ o. option_map_or (agree_on_flows line alternatives d a b) o true) at_d) ∙ agree in
        let of_flow = all_in_range (agree_on_flow line alternatives d a b need) (length line.plan.flows.items) f below flows in
        let its = sym (ap (λ o. option_map_or (brings a b need f) o true) at_f) ∙ of_flow in
        sym (ap (λ t. not t || (if flow.on_request then agree_on_answers line alternatives d a b f flow
        else agree_on_sending line alternatives d a b f)) brought) ∙ its

    pub sending_agrees : flow.on_request ≡ false → do_overlap line alternatives (Need d) (Flow f) (Flow f) ≡ true
        → are_one_answer (flow_admits line a f) (flow_admits line b f) ≡ true
    sending_agrees by_itself meet =
        let its = sym (ap (λ t. if t then agree_on_answers line alternatives d a b f flow
        else agree_on_sending line alternatives d a b f) by_itself) ∙ agreed in
        sym (ap (λ t. not t || are_one_answer (flow_admits line a f) (flow_admits line b f)) meet) ∙ its

    pub answer_agrees : flow.on_request ≡ true → (r : ℕ) (request : RequestPlan) → slice_get line.plan.requests.items r ≡ Some request
        → r < length line.plan.requests.items → serves request flow ≡ true → do_overlap line alternatives (Need d) (Flow f) (Request r) ≡ true
        → are_one_answer (flow_admits line a f && request_admits line a r) (flow_admits line b f && request_admits line b r) ≡ true
    unfolding agree_on_answers
    answer_agrees asked r request at_r few serves_it meet =
        let both = are_one_answer (flow_admits line a f && request_admits line a r) (flow_admits line b f && request_admits line b r) in
        let all = sym (ap (λ t. if t then agree_on_answers line alternatives d a b f flow else agree_on_sending line alternatives d a b f) asked) ∙ agreed in
        let one = all_in_range (agree_on_answer line alternatives d a b f flow) (length line.plan.requests.items) r few all in
        let its = sym (ap (λ o. option_map_or (answers a b f flow r) o true) at_r) ∙ one in
        sym (ap (λ t. not t || both) meet)
        ∙ (sym (ap (λ t. not t || (not (do_overlap line alternatives (Need d) (Flow f) (Request r)) || both)) serves_it) ∙ its)
