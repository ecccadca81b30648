-- The worst of what is reported of variants, one after the other.
use Rattle.std.proofs.Common.{◌≡◌, ◌⊎◌, ℕ, ◌+◌, ◌<◌, ◌≤◌, List, [], ◌∷◌, ◌++◌, Bool, true, false, ◌&&◌, ◌||◌, nat_lt, inl, inr, get_or, length, map, max, refl}
use Rattle.std.proofs.Common.{sym, ap, ◌∙◌, arith, subst}
use Rattle.std.specs.Prelude.{◌==◌, if◌then◌else◌}
use Rattle.std.specs.List.{range_with_len}
use Rattle.std.proofs.Math.Nat.{le-max_left, le-max_right}
use Rattle.std.proofs.lemmas.Bool.{cases_Bool, eq-eqb, eqb-true, false≢true, ltb-false, ltb-true, lt-ltb, true≢false}
use Rattle.std.proofs.lemmas.List.FromFn.{get_or-map-range_with_len, length-map-range_with_len}
use Rattle.j39_variants.specs.declared.line.ProductLine.{ProductLine}
use Rattle.j39_line_findings.proofs.OneOf.{one_cases, one_left, one_right}
use Rattle.j39_line_bounds.specs.LineTimes.{AreWorst, IsGreatestLoad, IsTimesAmong, IsWorst, time_of_flow, flow_badness, is_less_bad, time_of_need}
use Rattle.j39_line_bounds.specs.LineTimes.{need_badness, worse}
use Rattle.j39_line_bounds.specs.declared.times.Badness.{Badness}
use Rattle.j39_line_bounds.specs.declared.times.FlowTime.TheVariants as flow
use Rattle.j39_line_bounds.specs.declared.times.LineTimes.{LineTimes as Times}
use Rattle.j39_line_bounds.specs.declared.times.NeedTime.TheVariants as need

-- ---- the order

abbrev IsLess : Badness → Badness → Type 0
IsLess a b = (a.degree < b.degree) ⊎ ((a.degree ≡ b.degree) × (a.time < b.time))

less : (a b : Badness) → is_less_bad a b ≡ true → IsLess a b
less a b is = elim (cases_Bool (nat_lt a.degree b.degree)) [
  | inl below ↦ inl (ltb-true a.degree b.degree below)
  | inr not_below ↦
      let rest : ((a.degree == b.degree) && nat_lt a.time b.time) ≡ true = rw not_below at is in
      elim (cases_Bool (a.degree == b.degree)) [
        | inl same ↦ inr (eqb-true a.degree b.degree same, ltb-true a.time b.time (rw same at rest))
        | inr other ↦ absurd (false≢true (rw other at rest))
      ]
]

from_less : (a b : Badness) → IsLess a b → is_less_bad a b ≡ true
from_less a b (inl below) =
    subst (λ p. (p || ((a.degree == b.degree) && nat_lt a.time b.time)) ≡ true) (sym (lt-ltb a.degree b.degree below)) refl
from_less a b (inr (same, below)) = elim (cases_Bool (nat_lt a.degree b.degree)) [
  | inl sooner ↦ subst (λ p. (p || ((a.degree == b.degree) && nat_lt a.time b.time)) ≡ true) (sym sooner) refl
  | inr not_below ↦
      let times : nat_lt a.time b.time ≡ true = lt-ltb a.time b.time below in
      let rest : ((a.degree == b.degree) && nat_lt a.time b.time) ≡ true =
      subst (λ q. (q && nat_lt a.time b.time) ≡ true) (sym (eq-eqb a.degree b.degree same)) times in
      subst (λ p. (p || ((a.degree == b.degree) && nat_lt a.time b.time)) ≡ true) (sym not_below) rest
]

less_of_less : (a b c : Badness) → IsLess a b → IsLess b c → IsLess a c
less_of_less a b c (inl x) (inl y) = inl (omega (arith, x, y))
less_of_less a b c (inl x) (inr (same, y)) = inl (omega (arith, x, same))
less_of_less a b c (inr (same, x)) (inl y) = inl (omega (arith, same, y))
less_of_less a b c (inr (same, x)) (inr (other, y)) = inr (same ∙ other, omega (arith, x, y))

not_itself : (a : Badness) → IsLess a a → ⊥
not_itself a (inl x) = omega (arith, x)
not_itself a (inr (same, x)) = omega (arith, x)

not_less : (a b : Badness) → (IsLess a b → ⊥) → is_less_bad a b ≡ false
not_less a b never = elim (cases_Bool (is_less_bad a b)) [
  | inl is ↦ absurd (never (less a b is))
  | inr is ↦ is
]

-- one that isn't less bad than a third stays so where a worse one takes its place
still_not_less : (a b t : Badness) → is_less_bad a b ≡ true → is_less_bad a t ≡ false → is_less_bad b t ≡ false
still_not_less a b t below never = not_less b t (λ is.
    let through = from_less a t (less_of_less a b t (less a b below) is) in
    true≢false (sym through ∙ never))

-- ---- with one more

module _ {T : Type 0} (bad : T → Badness) (nothing : T) (at : Times → T) (each : List Times) (more : Times) (worst : T)
    (is : IsWorst bad nothing at each worst) where
  reported_of_one : (b : Bool) → ((if b then at more else worst) ≡ nothing)
      ⊎ ((times : Times) × IsTimesAmong (each ++ more ∷ []) times × ((if b then at more else worst) ≡ at times))
  reported_of_one true = inr (more, one_right each (more ∷ []) more (inl refl), refl)
  reported_of_one false = elim is.one [
    | inl none ↦ inl none
    | inr one ↦ inr (one.0, one_left each (more ∷ []) one.0 one.1, one.2)
  ]

  not_less_than : (b : Bool) → is_less_bad (bad worst) (bad (at more)) ≡ b → (times : Times) → IsTimesAmong (each ++ more ∷ []) times
      → is_less_bad (bad (if b then at more else worst)) (bad (at times)) ≡ false
  not_less_than true below times among = elim (one_cases each (more ∷ []) times among) [
    | inl old ↦ still_not_less (bad worst) (bad (at more)) (bad (at times)) below (is.none_worse times old)
    | inr (inl same) ↦ subst (λ t. is_less_bad (bad (at more)) (bad (at t)) ≡ false) same
        (not_less (bad (at more)) (bad (at more)) (not_itself (bad (at more))))
    | inr (inr none) ↦ absurd none
  ]
  not_less_than false never times among = elim (one_cases each (more ∷ []) times among) [
    | inl old ↦ is.none_worse times old
    | inr (inl same) ↦ subst (λ t. is_less_bad (bad worst) (bad (at t)) ≡ false) same never
    | inr (inr none) ↦ absurd none
  ]

  pub worse_with : IsWorst bad nothing at (each ++ more ∷ []) (worse bad worst (at more))
  worse_with = record {
    one = reported_of_one (is_less_bad (bad worst) (bad (at more)));
    none_worse = not_less_than (is_less_bad (bad worst) (bad (at more))) refl;
  }

greatest_with : (each : List Times) (more : Times) (load : ℕ) → IsGreatestLoad each load → IsGreatestLoad (each ++ more ∷ []) (max load more.load)
greatest_with each more load is = record {
  one = elim (cases_Bool (nat_lt load more.load)) [
    | inl below ↦
        let less = ltb-true load more.load below in
        inr (more, one_right each (more ∷ []) more (inl refl), omega (arith, less))
    | inr not_below ↦
        let no_more = ltb-false load more.load not_below in
        let same : max load more.load ≡ load = omega (arith, no_more) in
        elim is.one [
          | inl none ↦ inl (same ∙ none)
          | inr one ↦ inr (one.0, one_left each (more ∷ []) one.0 one.1, same ∙ one.2)
        ]
  ];
  none_more = λ times among. elim (one_cases each (more ∷ []) times among) [
    | inl old ↦
        let below = is.none_more times old in
        let left = le-max_left load more.load in
        omega (arith, below, left)
    | inr (inl same) ↦ subst (λ t. t.load ≤ max load more.load) same (le-max_right load more.load)
    | inr (inr none) ↦ absurd none
  ];
}

-- of each place of the file
module _ {T : Type 0} (bad : T → Badness) (nothing : T) (at : Times → ℕ → T) (each : List Times) (one more : Times) (values : List T) (n : ℕ)
    (made : values ≡ map (λ i. worse bad (at one i) (at more i)) (range_with_len 0 n)) where
  abbrev worse_at : ℕ → T
  worse_at i = worse bad (at one i) (at more i)

  worse_count : length values ≡ n
  worse_count = ap length made ∙ length-map-range_with_len worse_at 0 n

  each_worse : (i : ℕ) → i < n → IsWorst bad nothing (λ times. at times i) each (at one i)
      → IsWorst bad nothing (λ times. at times i) (each ++ more ∷ []) (get_or values i nothing)
  each_worse i below is =
      let first : 0 + i ≡ i = omega arith in
      let here : get_or values i nothing ≡ worse_at i =
      ap (λ (xs : List T). get_or xs i nothing) made ∙ get_or-map-range_with_len worse_at 0 n i i nothing below first in
      subst (IsWorst bad nothing (λ times. at times i) (each ++ more ∷ [])) (sym here) (worse_with bad nothing (λ times. at times i) each more (at one i) is)

pub all_with : (line : ProductLine) (each : List Times) (one more reported : Times)
    → reported.flows.items ≡ map (λ f. worse flow_badness (time_of_flow one f) (time_of_flow more f)) (range_with_len 0 (length one.flows.items))
    → reported.needs.items ≡ map (λ d. worse need_badness (time_of_need one d) (time_of_need more d)) (range_with_len 0 (length one.needs.items))
    → reported.load ≡ max one.load more.load → AreWorst line each one → AreWorst line (each ++ more ∷ []) reported
all_with line each one more reported flows needs load are =
    let n = length one.flows.items in
    let m = length one.needs.items in record {
      flow_count = worse_count flow_badness flow.NoVariant time_of_flow each one more reported.flows.items n flows ∙ are.flow_count;
      flows = λ f below. each_worse flow_badness flow.NoVariant time_of_flow each one more reported.flows.items n flows f
          (subst (λ k. f < k) (sym are.flow_count) below) (are.flows f below);
      need_count = worse_count need_badness need.NoVariant time_of_need each one more reported.needs.items m needs ∙ are.need_count;
      needs = λ d below. each_worse need_badness need.NoVariant time_of_need each one more reported.needs.items m needs d
          (subst (λ k. d < k) (sym are.need_count) below) (are.needs d below);
      load = subst (IsGreatestLoad (each ++ more ∷ [])) (sym load) (greatest_with each more one.load are.load);
    }
