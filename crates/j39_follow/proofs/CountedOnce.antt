-- That no message counts twice.
use Rattle.std.proofs.Common.{◌≡◌, ◌==◌, ◌&&◌, ◌||◌, ◌+◌, ◌<◌, ◌≤◌, ℕ, zero, suc, Bool, true, false, if◌then◌else◌, List, [], ◌∷◌, Some, None, drop}
use Rattle.std.proofs.Common.{inl, inr, refl, sym, ap, ◌∙◌, arith, eq-eqb, eqb-true}
use Rattle.std.specs.Prelude.{cond, count_by}
use Rattle.std.specs.List.{filter, slice_get, zip}
use Rattle.std.specs.Option.{option_map_or}
use Rattle.std.proofs.lemmas.Bool.{cases_Bool, false≢true, ne_eqb, or_parts}
use Rattle.std.proofs.lemmas.List.Sums.{sum_by-cons}
use Rattle.j39_network.specs.Serving.{meets}
use Rattle.j39_network.specs.declared.plan.Plan.{Plan}
use Rattle.j39_network.specs.declared.plan.flow_plan.FlowPlan.{FlowPlan}
use Rattle.j39_network.specs.declared.plan.need_plan.NeedPlan.{NeedPlan}
use Rattle.j39_network.specs.declared.plan.request_plan.RequestPlan.{RequestPlan}
use Rattle.j39_follow.specs.CountedOnce.{NeedsAreMetOnce, RequestsAreAnsweredOnce, is_met_by}
use Rattle.j39_follow.specs.FollowText.{is_of_flow, met_by, times_met}
use Rattle.j39_follow.specs.LoggedRequests.{answers, asks_request, concerns, refuses}
use Rattle.j39_follow.specs.declared.request.event.Event.{Event}
use Rattle.j39_follow.specs.declared.request.event.Event.TheVariants.{Asked, Brought, Refused}
use Rattle.j39_follow.specs.declared.message.Sort.{Sort}
use Rattle.j39_follow.specs.declared.message.Sort.TheVariants.{Grouped, Other}

-- ---- counts

abbrev one_if : Bool → ℕ
one_if b = cond b 1 0

count_first : {A : Type 0} (p : A → Bool) (x : A) (xs : List A) → count_by p (x ∷ xs) ≡ one_if (p x) + count_by p xs
count_first p x xs = sum_by-cons (λ y. one_if (p y)) x xs

-- a count is the same where all that is counted was kept
kept_count : {A : Type 0} (p q : A → Bool) → ((x : A) → q x ≡ false → p x ≡ false) → (xs : List A) → count_by p (filter q xs) ≡ count_by p xs
kept_count p q hides [] = refl
kept_count {A} p q hides (x ∷ xs) = elim (cases_Bool (q x)) [
  | inl kept ↦
      ap (λ (b : Bool). count_by p (cond b (x ∷ filter q xs) (filter q xs))) kept ∙ count_first p x (filter q xs)
      ∙ ap (λ (n : ℕ). one_if (p x) + n) (kept_count p q hides xs) ∙ sym (count_first p x xs)
  | inr hidden ↦
      let nothing : one_if false + count_by p xs ≡ count_by p xs = omega arith in
      ap (λ (b : Bool). count_by p (cond b (x ∷ filter q xs) (filter q xs))) hidden ∙ kept_count p q hides xs
      ∙ sym (count_first p x xs ∙ ap (λ (b : Bool). one_if b + count_by p xs) (hides x hidden) ∙ nothing)
]

-- ---- requests

one_of : (a b c : Bool) → (b ≡ true → c ≡ false) → one_if (a && b) + one_if (a && c) ≤ one_if a
one_of false b c h = omega arith
one_of true false false h = omega arith
one_of true false true h = omega arith
one_of true true false h = omega arith
one_of true true true h = absurd (false≢true (sym (h refl)))

-- of the pairs of neighbours that begin alike there are no more than such elements, whichever of two ends they have
begins_once : {A : Type 0} (p q s : A → Bool) → ((x : A) → q x ≡ true → s x ≡ false) → (xs : List A)
    → count_by (λ (t : A × A). p t.0 && q t.1) (zip xs (drop 1 xs)) + count_by (λ (t : A × A). p t.0 && s t.1) (zip xs (drop 1 xs)) ≤ count_by p xs
begins_once p q s either [] = omega arith
begins_once p q s either (x ∷ []) = omega arith
begins_once {A} p q s either (x ∷ y ∷ rest) =
    let a = count_first (λ (t : A × A). p t.0 && q t.1) (x, y) (zip (y ∷ rest) rest) in
    let b = count_first (λ (t : A × A). p t.0 && s t.1) (x, y) (zip (y ∷ rest) rest) in
    let c = count_first p x (y ∷ rest) in
    let here = one_of (p x) (q y) (s y) (either y) in
    let later = begins_once p q s either (y ∷ rest) in
    omega (arith, a, b, c, here, later)

at_most_second : (a b : Bool) → one_if (a && b) ≤ one_if b
at_most_second false b = omega arith
at_most_second true b = omega arith

-- and no more than elements that end them
ends_once : {A : Type 0} (p q : A → Bool) (xs ys : List A) → count_by (λ (t : A × A). p t.0 && q t.1) (zip xs ys) ≤ count_by q ys
ends_once p q [] ys = omega arith
ends_once p q (x ∷ xs) [] = omega arith
ends_once {A} p q (x ∷ xs) (y ∷ ys) =
    let a = count_first (λ (t : A × A). p t.0 && q t.1) (x, y) (zip xs ys) in
    let b = count_first q y ys in
    let here = at_most_second (p x) (q y) in
    let later = ends_once p q xs ys in
    omega (arith, a, b, here, later)

fewer_behind : {A : Type 0} (q : A → Bool) (xs : List A) → count_by q (drop 1 xs) ≤ count_by q xs
fewer_behind q [] = omega arith
fewer_behind q (x ∷ xs) = let a = count_first q x xs in omega (arith, a)

no_refusal : (plan : Plan) (r : RequestPlan) (e : Event) → answers plan r e ≡ true → refuses plan r e ≡ false
no_refusal plan r (Asked asked) is = absurd (false≢true is)
no_refusal plan r (Brought reply) is = refl
no_refusal plan r (Refused reply) is = absurd (false≢true is)

module _ (plan : Plan) (place : ℕ) (r : RequestPlan) (events : List Event) where
  all_asked : count_by (asks_request place) (filter (concerns plan place r) events) ≡ count_by (asks_request place) events
  all_asked = kept_count (asks_request place) (concerns plan place r)
      (λ e h. (or_parts (asks_request place e) (answers plan r e || refuses plan r e) h).0) events

  all_answers : count_by (answers plan r) (filter (concerns plan place r) events) ≡ count_by (answers plan r) events
  all_answers = kept_count (answers plan r) (concerns plan place r)
      (λ e h. (or_parts (answers plan r e) (refuses plan r e) (or_parts (asks_request place e) (answers plan r e || refuses plan r e) h).1).0) events

  all_refusals : count_by (refuses plan r) (filter (concerns plan place r) events) ≡ count_by (refuses plan r) events
  all_refusals = kept_count (refuses plan r) (concerns plan place r)
      (λ e h. (or_parts (answers plan r e) (refuses plan r e) (or_parts (asks_request place e) (answers plan r e || refuses plan r e) h).1).1) events

pub requests_are_answered_once : RequestsAreAnsweredOnce
requests_are_answered_once plan place r events =
    let own = filter (concerns plan place r) events in
    let asked = begins_once (asks_request place) (answers plan r) (refuses plan r) (no_refusal plan r) own in
    let answered = ends_once (asks_request place) (answers plan r) own (drop 1 own) in
    let refused = ends_once (asks_request place) (refuses plan r) own (drop 1 own) in
    let fewer_answers = fewer_behind (answers plan r) own in
    let fewer_refusals = fewer_behind (refuses plan r) own in
    let asks = all_asked plan place r events in
    let brings = all_answers plan place r events in
    let denies = all_refusals plan place r events in
    record {
      asked = omega (arith, asked, asks);
      answered = omega (arith, answered, fewer_answers, brings);
      refused = omega (arith, refused, fewer_refusals, denies);
    }

-- ---- needs

-- the flow at a place, where these begin at the place n, meets the need
abbrev meets_at : List RequestPlan → NeedPlan → ℕ → List FlowPlan → ℕ → Bool
meets_at requests need n [] f = false
meets_at requests need n (flow ∷ flows) f = if f == n then meets requests need flow else meets_at requests need (n + 1) flows f

abbrev is_met_from : List RequestPlan → NeedPlan → ℕ → List FlowPlan → Sort → Bool
is_met_from requests need n flows (Grouped group (Some f)) = meets_at requests need n flows f
is_met_from requests need n flows (Grouped group None) = false
is_met_from requests need n flows (Other pgn) = false

none_before : (requests : List RequestPlan) (need : NeedPlan) (n : ℕ) (flows : List FlowPlan) (f : ℕ) → f < n → meets_at requests need n flows f ≡ false
none_before requests need n [] f less = refl
none_before requests need n (flow ∷ flows) f less =
    ap (λ (b : Bool). if b then meets requests need flow else meets_at requests need (n + 1) flows f) (ne_eqb f n (λ e. absurd (omega (arith, less, e))))
    ∙ none_before requests need (n + 1) flows f (omega (arith, less))

this_or_later : (b e l : Bool) → (e ≡ true → l ≡ false) → one_if (b && e) + one_if l ≡ one_if (if e then b else l)
this_or_later b true true h = absurd (false≢true (sym (h refl)))
this_or_later false true false h = refl
this_or_later true true false h = refl
this_or_later false false l h = let same : 0 + one_if l ≡ one_if l = omega arith in same
this_or_later true false l h = let same : 0 + one_if l ≡ one_if l = omega arith in same

module _ (requests : List RequestPlan) (need : NeedPlan) (n : ℕ) (flow : FlowPlan) (flows : List FlowPlan) where
  -- a message is of the first flow or of a later one
  of_one : (sort : Sort) → one_if (meets requests need flow && is_of_flow n sort) + one_if (is_met_from requests need (n + 1) flows sort)
      ≡ one_if (is_met_from requests need n (flow ∷ flows) sort)
  of_one (Grouped group (Some f)) =
      this_or_later (meets requests need flow) (f == n) (meets_at requests need (n + 1) flows f)
      (λ same. none_before requests need (n + 1) flows f (let is = eqb-true f n same in omega (arith, is)))
  of_one (Grouped group None) = this_or_later (meets requests need flow) false false (λ same. refl)
  of_one (Other pgn) = this_or_later (meets requests need flow) false false (λ same. refl)

-- a count where a test is passed is one of what passes both
counted_if : {A : Type 0} (b : Bool) (p : A → Bool) (xs : List A) → (if b then count_by p xs else 0) ≡ count_by (λ x. b && p x) xs
counted_if true p xs = refl
counted_if false p [] = refl
counted_if {A} false p (x ∷ xs) =
    let later : 0 ≡ count_by (λ (y : A). false && p y) xs = counted_if false p xs in
    let all = count_first (λ (y : A). false && p y) x xs in
    omega (arith, later, all)

counts_add : {A : Type 0} (p q s : A → Bool) → ((x : A) → one_if (p x) + one_if (q x) ≡ one_if (s x)) → (xs : List A)
    → count_by p xs + count_by q xs ≡ count_by s xs
counts_add p q s each [] = refl
counts_add p q s each (x ∷ xs) =
    let a = count_first p x xs in
    let b = count_first q x xs in
    let c = count_first s x xs in
    let here = each x in
    let later = counts_add p q s each xs in
    omega (arith, a, b, c, here, later)

none_here : (requests : List RequestPlan) (need : NeedPlan) (n : ℕ) (s : Sort) → one_if (is_met_from requests need n [] s) ≡ 0
none_here requests need n (Grouped group (Some f)) = refl
none_here requests need n (Grouped group None) = refl
none_here requests need n (Other pgn) = refl

none_met : (requests : List RequestPlan) (need : NeedPlan) (n : ℕ) (sent : List Sort) → 0 ≡ count_by (is_met_from requests need n []) sent
none_met requests need n [] = refl
none_met requests need n (s ∷ sent) =
    let all = count_first (is_met_from requests need n []) s sent in
    let later = none_met requests need n sent in
    let here = none_here requests need n s in
    omega (arith, all, later, here)

met_from : (requests : List RequestPlan) (need : NeedPlan) (sent : List Sort) (n : ℕ) (flows : List FlowPlan)
    → times_met requests sent need n flows ≡ count_by (is_met_from requests need n flows) sent
unfolding times_met
met_from requests need sent n [] = none_met requests need n sent
met_from requests need sent n (flow ∷ flows) =
    ap (λ (k : ℕ). met_by requests sent need n flow + k) (met_from requests need sent (n + 1) flows)
    ∙ ap (λ (k : ℕ). k + count_by (is_met_from requests need (n + 1) flows) sent) (counted_if (meets requests need flow) (is_of_flow n) sent)
    ∙ counts_add (λ s. meets requests need flow && is_of_flow n s) (is_met_from requests need (n + 1) flows) (is_met_from requests need n (flow ∷ flows))
    (of_one requests need n flow flows) sent

-- by its place from the first flow on
meets_there : (requests : List RequestPlan) (need : NeedPlan) (n : ℕ) (flows : List FlowPlan) (k : ℕ)
    → meets_at requests need n flows (n + k) ≡ option_map_or (meets requests need) (slice_get flows k) false
meets_there requests need n [] k = refl
meets_there requests need n (flow ∷ flows) zero =
    let same : n + 0 ≡ n = omega arith in
    ap (λ (b : Bool). if b then meets requests need flow else meets_at requests need (n + 1) flows (n + 0)) (eq-eqb (n + 0) n same)
meets_there requests need n (flow ∷ flows) (suc k) =
    let other : (n + suc k ≡ n) → ⊥ = λ e. absurd (omega (arith, e)) in
    let moved : n + suc k ≡ (n + 1) + k = omega arith in
    ap (λ (b : Bool). if b then meets requests need flow else meets_at requests need (n + 1) flows (n + suc k)) (ne_eqb (n + suc k) n other)
    ∙ ap (meets_at requests need (n + 1) flows) moved ∙ meets_there requests need (n + 1) flows k

same_test : (plan : Plan) (need : NeedPlan) (s : Sort)
    → one_if (is_met_from plan.requests.items need 0 plan.flows.items s) ≡ one_if (is_met_by plan need s)
same_test plan need (Grouped group (Some f)) =
    let there : f ≡ 0 + f = omega arith in
    ap one_if (ap (meets_at plan.requests.items need 0 plan.flows.items) there ∙ meets_there plan.requests.items need 0 plan.flows.items f)
same_test plan need (Grouped group None) = refl
same_test plan need (Other pgn) = refl

same_counts : {A : Type 0} (p q : A → Bool) → ((x : A) → one_if (p x) ≡ one_if (q x)) → (xs : List A) → count_by p xs ≡ count_by q xs
same_counts p q each [] = refl
same_counts p q each (x ∷ xs) =
    let a = count_first p x xs in
    let b = count_first q x xs in
    let here = each x in
    let later = same_counts p q each xs in
    omega (arith, a, b, here, later)

pub needs_are_met_once : NeedsAreMetOnce
needs_are_met_once plan need sent =
    met_from plan.requests.items need sent 0 plan.flows.items
    ∙ same_counts (is_met_from plan.requests.items need 0 plan.flows.items) (is_met_by plan need) (same_test plan need) sent
