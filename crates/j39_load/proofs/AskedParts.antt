-- Sums of fractions, by their numerators and denominators: of one list behind another one, and in a time that is whole periods of each.
use Rattle.std.proofs.Common.{◌≡◌, ℕ, suc, ◌+◌, ◌*◌, ◌<◌, ◌≤◌, Bool, true, false, if◌then◌else◌, List, [], ◌∷◌, ◌++◌, Option, Some, None, ◌&&◌, ◌==◌, not}
use Rattle.std.proofs.Common.{get_or, length, ltb, take, drop, refl, sym, ap, subst, ◌∙◌, arith}
use Rattle.std.specs.List.{cons_option}
use Rattle.std.specs.Option.{ForSome, option_to_list}
use Rattle.std.proofs.Math.Seq.{take-suc}
use Rattle.std.proofs.lemmas.Bool.{lt-ltb, ltb-true, ne_eqb}
use Rattle.std.proofs.lemmas.List.{append-nil, take-append-drop}
use Rattle.std.proofs.lemmas.List.Elements.{filter_map-append}
use Rattle.j39_network.specs.Serving.{serves}
use Rattle.j39_network.specs.declared.plan.flow_plan.FlowPlan.{FlowPlan}
use Rattle.j39_network.specs.declared.plan.pace.Pace.{Pace}
use Rattle.j39_network.specs.declared.plan.request_plan.RequestPlan.{RequestPlan}
use Rattle.j39_load.specs.AskedFlows.{asked_every, asked_parts, asking_periods, is_asked_too_often, is_more_than_one, whole_parts}
use Rattle.j39_load.specs.inside.AskedShares.{parts_asked_in, IsShareOf, whole_in}
use Rattle.j39_load.specs.declared.findings.asked_share.AskedShare.{AskedShare}
use Rattle.j39_load.proofs.AskedShares.{times_greater}

-- ---- of two lists

pub whole_of_both : (xs ys : List ℕ) → whole_parts (xs ++ ys) ≡ whole_parts xs * whole_parts ys
unfolding whole_parts
whole_of_both [] ys = omega arith
whole_of_both (x ∷ xs) ys = let both = ap (λ (n : ℕ). x * n) (whole_of_both xs ys) in omega (arith, both)

pub asked_of_both : (p : ℕ) (xs ys : List ℕ)
    → asked_parts p (xs ++ ys) ≡ asked_parts p xs * whole_parts ys + whole_parts xs * asked_parts p ys
unfolding asked_parts whole_parts
asked_of_both p [] ys = omega arith
asked_of_both p (x ∷ xs) ys =
    let asked = ap (λ (n : ℕ). x * n) (asked_of_both p xs ys) in
    let whole = ap (λ (n : ℕ). p * n) (whole_of_both xs ys) in
    omega (arith, asked, whole)

-- with one more at the end
pub whole_with : (xs : List ℕ) (x : ℕ) → whole_parts (xs ++ x ∷ []) ≡ x * whole_parts xs
unfolding whole_parts
whole_with xs x = let both = whole_of_both xs (x ∷ []) in omega (arith, both)

pub asked_with : (p : ℕ) (xs : List ℕ) (x : ℕ) → asked_parts p (xs ++ x ∷ []) ≡ p * whole_parts xs + x * asked_parts p xs
unfolding asked_parts whole_parts
asked_with p xs x = let both = asked_of_both p xs (x ∷ []) in omega (arith, both)

-- what is above 1 stays so
pub still_more : (p : ℕ) (xs ys : List ℕ) → 1 ≤ whole_parts ys → is_more_than_one p xs ≡ true → is_more_than_one p (xs ++ ys) ≡ true
still_more p xs ys some more =
    let whole = whole_of_both xs ys in
    let asked = asked_of_both p xs ys in
    let above = times_greater (whole_parts ys) (whole_parts xs) (asked_parts p xs) (ltb-true (whole_parts xs) (asked_parts p xs) more) in
    lt-ltb (whole_parts (xs ++ ys)) (asked_parts p (xs ++ ys)) (omega (arith, whole, asked, above, some))

-- ---- of the requests that ask for a flow

module _ (flow : FlowPlan) where
  pub periods_of_both : (requests others : List RequestPlan) → asking_periods (requests ++ others) flow ≡ asking_periods requests flow
      ++ asking_periods others flow
  periods_of_both requests others = filter_map-append (asked_every flow) requests others

  whole_by_period : (o : Option ℕ) (periods : List ℕ) → ForSome o (λ n. 1 ≤ n) → 1 ≤ whole_parts periods → 1 ≤ whole_parts (cons_option o periods)
  unfolding whole_parts
  whole_by_period None periods positive rest = rest
  whole_by_period (Some every) periods positive rest =
      let some : 1 ≤ every = positive every refl in
      let more = times_greater (whole_parts periods) 0 every some in omega (arith, more, rest)

  whole_by_test : (b : Bool) (request : RequestPlan) (periods : List ℕ) → 1 ≤ whole_parts periods
      → 1 ≤ whole_parts (cons_option (if b then request.period else None) periods)
  whole_by_test true request periods rest = whole_by_period request.period periods request.period_positive rest
  whole_by_test false request periods rest = rest

  pub some_whole : (requests : List RequestPlan) → 1 ≤ whole_parts (asking_periods requests flow)
  unfolding whole_parts
  some_whole [] = omega arith
  some_whole (request ∷ requests) = whole_by_test (serves request flow) request (asking_periods requests flow) (some_whole requests)

  pub periods_more : (requests : List RequestPlan) (k : ℕ) (d : RequestPlan) → k < length requests
      → asking_periods (take (k + 1) requests) flow ≡ asking_periods (take k requests) flow ++ option_to_list (asked_every flow (get_or requests k d))
  periods_more requests k d inside =
      let next : k + 1 ≡ suc k = omega arith in
      ap (λ (n : ℕ). asking_periods (take n requests) flow) next
      ∙ ap (λ (l : List RequestPlan). asking_periods l flow) (take-suc requests k d inside)
      ∙ periods_of_both (take k requests) (get_or requests k d ∷ [])
      ∙ ap (λ (l : List ℕ). asking_periods (take k requests) flow ++ l) (one (asked_every flow (get_or requests k d)))
    where
      one : (o : Option ℕ) → cons_option o [] ≡ option_to_list o
      one None = refl
      one (Some every) = refl

  -- with the period of the next one, and where it asks for no such flow
  pub periods_with : (requests : List RequestPlan) (k : ℕ) (d : RequestPlan) (every : ℕ) → k < length requests
      → asked_every flow (get_or requests k d) ≡ Some every
      → asking_periods (take (k + 1) requests) flow ≡ asking_periods (take k requests) flow ++ every ∷ []
  periods_with requests k d every inside is =
      periods_more requests k d inside ∙ ap (λ (o : Option ℕ). asking_periods (take k requests) flow ++ option_to_list o) is

  pub periods_without : (requests : List RequestPlan) (k : ℕ) (d : RequestPlan) → k < length requests → asked_every flow (get_or requests k d) ≡ None
      → asking_periods (take (k + 1) requests) flow ≡ asking_periods (take k requests) flow
  periods_without requests k d inside is =
      periods_more requests k d inside ∙ ap (λ (o : Option ℕ). asking_periods (take k requests) flow ++ option_to_list o) is
      ∙ append-nil (asking_periods (take k requests) flow)

  -- more is asked by all of them, where more is by the first ones
  pub more_of_all : (p : ℕ) (requests : List RequestPlan) (k : ℕ) → is_more_than_one p (asking_periods (take k requests) flow) ≡ true
      → is_more_than_one p (asking_periods requests flow) ≡ true
  more_of_all p requests k more =
      subst (λ l. is_more_than_one p (asking_periods l flow) ≡ true) (take-append-drop k requests)
      (subst (λ l. is_more_than_one p l ≡ true) (sym (periods_of_both (take k requests) (drop k requests)))
      (still_more p (asking_periods (take k requests) flow) (asking_periods (drop k requests) flow) (some_whole (drop k requests)) more))

-- ---- where nothing is asked

pub none_asked : (p : ℕ) → is_more_than_one p [] ≡ false
unfolding whole_parts asked_parts
none_asked p = refl

pub answering_more : (requests : List RequestPlan) (flow : FlowPlan) (pace : Pace) → flow.on_request ≡ true → flow.pace ≡ Some pace
    → is_asked_too_often requests flow ≡ is_more_than_one pace.period (asking_periods requests flow)
answering_more requests flow pace answers paced = rw (answers, paced) (go (asking_periods requests flow))
  where
    go : (periods : List ℕ) → (not (length periods == 0) && is_more_than_one pace.period periods) ≡ is_more_than_one pace.period periods
    go [] = sym (none_asked pace.period)
    go (every ∷ periods) = rw (ne_eqb (length (every ∷ periods)) 0 (λ none. absurd (omega (arith, none)))) refl

-- ---- as the program counts it

pub share_more : (p : ℕ) (periods : List ℕ) (share : AskedShare) (every : ℕ) → IsShareOf p periods share
    → is_more_than_one p (periods ++ every ∷ []) ≡ ltb (every * whole_in share) (p * whole_in share + every * parts_asked_in share)
share_more p periods share every is =
    rw (is.whole, is.asked, whole_with periods every, asked_with p periods every) refl

pub share_with : (p : ℕ) (periods : List ℕ) (old new : AskedShare) (every : ℕ) → IsShareOf p periods old
    → parts_asked_in new ≡ p * whole_in old + every * parts_asked_in old → whole_in new ≡ every * whole_in old → IsShareOf p (periods ++ every ∷ []) new
share_with p periods old new every is asked whole = record {
  asked = asked ∙ ap (λ (n : ℕ). p * n + every * parts_asked_in old) is.whole ∙ ap (λ (n : ℕ). p * whole_parts periods + every * n) is.asked
      ∙ sym (asked_with p periods every);
  whole = whole ∙ ap (λ (n : ℕ). every * n) is.whole ∙ sym (whole_with periods every);
}
