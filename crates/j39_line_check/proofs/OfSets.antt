-- A variant takes alternatives of a set alone: each that it takes is in the set.
use Rattle.std.proofs.Common.{◌≡◌, ℕ, zero, suc, ◌+◌, ◌<◌, ◌==◌, Bool, true, ◌&&◌, List, [], ◌∷◌, Contains, Some, inl, inr, length, refl, sym, subst, arith}
use Rattle.std.specs.List.{list_all, list_any, range_with_len, slice_get}
use Rattle.std.proofs.lemmas.Bool.{cases_Bool, eq-eqb, eqb-true, false≢true}
use Rattle.std.proofs.lemmas.Option.{none-some, same_Some}
use Rattle.j39_variants.specs.Variants.{IsVariant, takes_alternative}
use Rattle.j39_variants.specs.declared.line.Alternative.{Alternative}
use Rattle.j39_variants.specs.declared.line.Choice.{Choice}
use Rattle.j39_line_findings.specs.Boxes.{is_one_alternative}
use Rattle.j39_line_findings.specs.FullVariants.{alternative_at}
use Rattle.j39_line_check.specs.SetVariantLaws.{IsOfSet}
use Rattle.j39_line_check.specs.SetVariants.{set_has, has_choice, takes_from}
use Rattle.j39_line_check.proofs.Sets.{and_so, both, one_itself, one_same}

-- ---- what a set contains

contains_behind : (b a : Alternative) (set : List Alternative) → Contains set a → Contains (b ∷ set) a
contains_behind b a set (k, below, is) = (suc k, omega (arith, below), is)

has_it : (set : List Alternative) (a : Alternative) → Contains set a → set_has set a ≡ true
has_it [] a (k, below, is) = absurd (omega (arith, below))
has_it (b ∷ set) a (zero, below, is) = let here : is_one_alternative b a ≡ true = subst (λ x. is_one_alternative b x ≡ true) is (one_itself b) in rw here refl
has_it (b ∷ set) a (suc k, below, is) = elim (cases_Bool (is_one_alternative b a)) [
  | inl here ↦ rw here refl
  | inr none ↦ rw none (has_it set a (k, omega (arith, below), is))
]

contains_it : (set : List Alternative) (a : Alternative) → set_has set a ≡ true → Contains set a
contains_it [] a is = absurd (false≢true is)
contains_it (b ∷ set) a is = elim (cases_Bool (is_one_alternative b a)) [
  | inl here ↦ (zero, omega arith, one_same b a here)
  | inr none ↦ contains_behind b a set (contains_it set a (rw none at is))
]

-- ---- what a variant takes

takes_each : (set : List Alternative) (k : ℕ) (v : List ℕ) → takes_from set k v ≡ true → (c p n : ℕ) → slice_get v c ≡ Some p → n ≡ k + c
    → set_has set (alternative_at n p) ≡ true
takes_each set k [] is c p n at same = absurd (none-some p at)
takes_each set k (q ∷ v) is zero p n at same =
    let parts = both (set_has set (alternative_at k q)) (takes_from set (k + 1) v) is in
    let here : k ≡ n = omega (arith, same) in
    subst (λ m. set_has set (alternative_at m p) ≡ true) here
    (subst (λ r. set_has set (alternative_at k r) ≡ true) (same_Some q p at) parts.0)
takes_each set k (q ∷ v) is (suc c) p n at same =
    let parts = both (set_has set (alternative_at k q)) (takes_from set (k + 1) v) is in
    takes_each set (k + 1) v parts.1 c p n at (omega (arith, same))

each_takes : (set : List Alternative) (k : ℕ) (v : List ℕ) → ((c p n : ℕ) → slice_get v c ≡ Some p → n ≡ k + c → set_has set (alternative_at n p) ≡ true)
    → takes_from set k v ≡ true
each_takes set k [] each = refl
each_takes set k (q ∷ v) each =
    and_so (set_has set (alternative_at k q)) (takes_from set (k + 1) v) (each zero q k refl (omega arith))
    (each_takes set (k + 1) v (λ c p n at same. each (suc c) p n at (omega (arith, same))))

-- ---- boxes

-- the alternative that it takes of a choice
taken : (v : List ℕ) (c : ℕ) → c < length v → (p : ℕ) × (slice_get v c ≡ Some p)
taken [] c below = absurd (omega (arith, below))
taken (q ∷ v) zero below = (q, refl)
taken (q ∷ v) (suc c) below = taken v c (omega (arith, below))

-- one of the set that it takes, of this choice
named : (set : List Alternative) (v : List ℕ) (c p : ℕ) → slice_get v c ≡ Some p → set_has set (alternative_at c p) ≡ true
    → list_any (λ b. (b.choice == c) && takes_alternative v b) set ≡ true
named [] v c p at is = absurd (false≢true is)
named (b ∷ set) v c p at is = elim (cases_Bool (is_one_alternative b (alternative_at c p))) [
  | inl here ↦
      let same : b ≡ alternative_at c p = one_same b (alternative_at c p) here in
      let takes : takes_alternative v (alternative_at c p) ≡ true = rw at (eq-eqb p p refl) in
      let so : ((b.choice == c) && takes_alternative v b) ≡ true =
      subst (λ x. ((x.choice == c) && takes_alternative v x) ≡ true) (sym same)
      (and_so (c == c) (takes_alternative v (alternative_at c p)) (eq-eqb c c refl) takes) in
      rw so refl
  | inr none ↦ elim (cases_Bool ((b.choice == c) && takes_alternative v b)) [
    | inl so ↦ rw so refl
    | inr not_so ↦ rw not_so (named set v c p at (rw none at is))
  ]
]

all_in : (p : Alternative → Bool) (set : List Alternative) → ((a : Alternative) → Contains set a → p a ≡ true) → list_all p set ≡ true
all_in p [] all = refl
all_in p (b ∷ set) all = and_so (p b) (list_all p set) (all b (zero, omega arith, refl)) (all_in p set (λ a at. all a (contains_behind b a set at)))

in_all : (p : Alternative → Bool) (set : List Alternative) → list_all p set ≡ true → (a : Alternative) → Contains set a → p a ≡ true
in_all p [] all a (k, below, is) = absurd (omega (arith, below))
in_all p (b ∷ set) all a (zero, below, is) = subst (λ x. p x ≡ true) is (both (p b) (list_all p set) all).0
in_all p (b ∷ set) all a (suc k, below, is) = in_all p set (both (p b) (list_all p set) all).1 a (k, omega (arith, below), is)

-- one that is taken of a choice
one_named : (set : List Alternative) (v : List ℕ) (c p : ℕ) → slice_get v c ≡ Some p → list_any (λ b. (b.choice == c) && takes_alternative v b) set ≡ true
    → set_has set (alternative_at c p) ≡ true
one_named [] v c p at is = absurd (false≢true is)
one_named (b ∷ set) v c p at is = elim (cases_Bool ((b.choice == c) && takes_alternative v b)) [
  | inl so ↦
      let parts = both (b.choice == c) (takes_alternative v b) so in
      let choice = eqb-true b.choice c parts.0 in
      let takes : (p == b.place) ≡ true = rw (choice, at) at parts.1 in
      let here : is_one_alternative b (alternative_at c p) ≡ true =
      and_so (b.choice == c) (b.place == p) parts.0 (eq-eqb b.place p (sym (eqb-true p b.place takes))) in
      rw here refl
  | inr not_so ↦ elim (cases_Bool (is_one_alternative b (alternative_at c p))) [
    | inl here ↦ rw here refl
    | inr none ↦ rw none (one_named set v c p at (rw not_so at is))
  ]
]

some_of_choice : (set : List Alternative) (c : ℕ) → has_choice set c ≡ true → (a : Alternative) × Contains set a × (a.choice ≡ c)
some_of_choice [] c is = absurd (false≢true is)
some_of_choice (b ∷ set) c is = elim (cases_Bool (b.choice == c)) [
  | inl here ↦ (b, (zero, omega arith, refl), eqb-true b.choice c here)
  | inr none ↦ let r = some_of_choice set c (rw none at is) in (r.0, contains_behind b r.0 set r.1, r.2)
]

in_range : (p : ℕ → Bool) (k n : ℕ) → list_all p (range_with_len k n) ≡ true → (c m : ℕ) → c < n → m ≡ k + c → p m ≡ true
in_range p k zero all c m below same = absurd (omega (arith, below))
in_range p k (suc n) all zero m below same =
    let here : k ≡ m = omega (arith, same) in
    subst (λ x. p x ≡ true) here (both (p k) (list_all p (range_with_len (k + 1) n)) all).0
in_range p k (suc n) all (suc c) m below same =
    in_range p (k + 1) n (both (p k) (list_all p (range_with_len (k + 1) n)) all).1 c m (omega (arith, below)) (omega (arith, same))

within : (v : List ℕ) (c p : ℕ) → slice_get v c ≡ Some p → c < length v
within [] c p at = absurd (none-some p at)
within (q ∷ v) zero p at = omega arith
within (q ∷ v) (suc c) p at = let rest = within v c p at in omega (arith, rest)

pub of_set : (choices : List Choice) (set : List Alternative) (v : List ℕ) → IsVariant choices v → IsOfSet choices set v
of_set choices set v is = record {
  each = λ alone c p at. contains_it set (alternative_at c p) (takes_each set 0 v alone c p c at (omega arith));
  alone = λ each. each_takes set 0 v (λ c p n at same.
      let here : c ≡ n = omega (arith, same) in
      subst (λ m. set_has set (alternative_at m p) ≡ true) here (has_it set (alternative_at c p) (each c p at)));
  in_box = λ of alone. all_in (λ a. list_any (λ b. (b.choice == a.choice) && takes_alternative v b) set) set (λ a at.
      let below = of a at in
      let long = is.of_each in
      let p = taken v a.choice (omega (arith, below, long)) in
      named set v a.choice p.0 p.1 (takes_each set 0 v alone a.choice p.0 a.choice p.1 (omega arith)));
  of_box = λ each inside. each_takes set 0 v (λ c p n at same.
      let here : c ≡ n = omega (arith, same) in
      let below = within v c p at in
      let long = is.of_each in
      let some = some_of_choice set c (in_range (has_choice set) 0 (length choices) each c c (omega (arith, below, long)) (omega arith)) in
      let taken_one : list_any (λ b. (b.choice == c) && takes_alternative v b) set ≡ true =
      subst (λ k. list_any (λ b. (b.choice == k) && takes_alternative v b) set ≡ true) some.2
      (in_all (λ a. list_any (λ b. (b.choice == a.choice) && takes_alternative v b) set) set inside some.0 some.1) in
      subst (λ m. set_has set (alternative_at m p) ≡ true) here (one_named set v c p at taken_one));
}
