-- What is so at the places below a number: at none, at one more, and at all where one is found.
use Rattle.std.proofs.Common.{◌≡◌, ◌==◌, ℕ, zero, suc, ◌+◌, ◌<◌, ◌&&◌, ◌||◌, ◌++◌, not, [], List, Bool, true, false, Option, Some, None, if◌then◌else◌, refl}
use Rattle.std.proofs.Common.{sym, ap, ◌∙◌, subst, add-one, arith, inl, inr, eq-eqb}
use Rattle.std.specs.Prelude.{is_some, unwrap_or}
use Rattle.std.specs.Option.{option_or}
use Rattle.std.proofs.Math.Bool.{and-false}
use Rattle.std.proofs.lemmas.Bool.{cases_lt, true≢false}
use Rattle.j39_audit.specs.Below.{any_below, each_below, first_below, least_below, lesser_of, sum_below}

-- ---- lists

pub each_none : {X : Type 0} (list : ℕ → List X) → each_below list 0 ≡ []
unfolding each_below
each_none list = refl

pub each_more : {X : Type 0} (list : ℕ → List X) (n : ℕ) → each_below list (n + 1) ≡ each_below list n ++ list n
unfolding each_below
each_more list n = rw add-one refl

-- ---- sums

pub sum_none : (number : ℕ → ℕ) → sum_below number 0 ≡ 0
unfolding sum_below
sum_none number = refl

pub sum_more : (number : ℕ → ℕ) (n : ℕ) → sum_below number (n + 1) ≡ sum_below number n + number n
unfolding sum_below
sum_more number n = rw add-one refl

-- ---- the least one

pub least_none : (number : ℕ → Option ℕ) → least_below number 0 ≡ None
unfolding least_below
least_none number = refl

pub least_more : (number : ℕ → Option ℕ) (n : ℕ) → least_below number (n + 1) ≡ lesser_of (least_below number n) (number n)
unfolding least_below
least_more number n = rw add-one refl

-- ---- tests

pub any_none : (test : ℕ → Bool) → any_below test 0 ≡ false
unfolding any_below
any_none test = refl

pub any_more : (test : ℕ → Bool) (n : ℕ) → any_below test n ≡ false → test n ≡ false → any_below test (n + 1) ≡ false
unfolding any_below
any_more test n before here = rw add-one (rw before here)

or_right : (a b : Bool) → b ≡ true → (a || b) ≡ true
or_right true b is = refl
or_right false b is = is

-- one that passes is one of more
pub any_here : (test : ℕ → Bool) (k n : ℕ) → test k ≡ true → k < n → any_below test n ≡ true
unfolding any_below
any_here test k zero here less = absurd (omega arith)
any_here test k (suc n) here less = elim (cases_lt k n) [
  | inl below ↦ rw (any_here test k n here below) refl
  | inr above ↦
      let same : k ≡ n = omega arith in
      or_right (any_below test n) (test n) (subst (λ (i : ℕ). test i ≡ true) same here)
]

-- ---- the first place

pub first_none : (test : ℕ → Bool) → first_below test 0 ≡ None
unfolding first_below
first_none test = refl

pub first_more : (test : ℕ → Bool) (n : ℕ) → first_below test n ≡ None → test n ≡ false → first_below test (n + 1) ≡ None
unfolding first_below
first_more test n before here = rw add-one (rw (before, here) refl)

pub first_here : (test : ℕ → Bool) (k n : ℕ) → first_below test k ≡ None → test k ≡ true → k < n → first_below test n ≡ Some k
unfolding first_below
first_here test k zero before here less = absurd (omega arith)
first_here test k (suc n) before here less = elim (cases_lt k n) [
  | inl below ↦ rw (first_here test k n before here below) refl
  | inr above ↦
      let same : n ≡ k = omega arith in
      let none : first_below test n ≡ None = ap (first_below test) same ∙ before in
      let passes : test n ≡ true = ap test same ∙ here in
      rw (none, passes) (ap Some same)
]

none_some : (n : ℕ) → None ≡ Some n → ⊥
none_some n is = true≢false (sym (ap is_some is))

-- no place passes before the first one
before_first : (test : ℕ → Bool) (k n : ℕ) (o : Option ℕ) (b : Bool) → (o ≡ Some k → first_below test k ≡ None) → first_below test n ≡ o
    → option_or o (if b then Some n else None) ≡ Some k → first_below test k ≡ None
before_first test k n (Some i) b rest here is = rest is
before_first test k n None true rest here is = ap (first_below test) (sym (ap (λ (o : Option ℕ). unwrap_or o 0) is)) ∙ here
before_first test k n None false rest here is = absurd (none_some k is)

pub none_before : (test : ℕ → Bool) (k n : ℕ) → first_below test n ≡ Some k → first_below test k ≡ None
unfolding first_below
none_before test k zero is = absurd (none_some k is)
none_before test k (suc n) is = before_first test k n (first_below test n) (test n) (none_before test k n) refl is

-- so up to it no other one does
none_of_both : (o : Option ℕ) (b : Bool) (n : ℕ) → option_or o (if b then Some n else None) ≡ None → (o ≡ None) × (b ≡ false)
none_of_both None false n is = (refl, refl)
none_of_both None true n is = absurd (none_some n (sym is))
none_of_both (Some i) b n is = absurd (none_some i (sym is))

none_else : (test : ℕ → Bool) (k n : ℕ) → first_below test n ≡ None → any_below (λ i. test i && not (i == k)) n ≡ false
unfolding first_below any_below
none_else test k zero none = refl
none_else test k (suc n) none =
    let parts = none_of_both (first_below test n) (test n) n none in
    rw (none_else test k n parts.0, parts.1) refl

pub no_other_yet : (test : ℕ → Bool) (k n : ℕ) → first_below test n ≡ Some k → any_below (λ i. test i && not (i == k)) (k + 1) ≡ false
no_other_yet test k n is =
    let itself : (test k && not (k == k)) ≡ false = ap (λ (b : Bool). test k && not b) (eq-eqb k k refl) ∙ and-false (test k) in
    any_more (λ i. test i && not (i == k)) k (none_else test k k (none_before test k n is)) itself
