-- Sets of alternatives, one inside another, and the variants that take alternatives of them alone.
use Rattle.std.proofs.Common.{◌≡◌, ℕ, suc, ◌+◌, ◌==◌, List, [], ◌∷◌, ◌++◌, Bool, true, false, ◌&&◌, ◌||◌, ◌<◌, inl, inr, drop, get_or, length, map, refl, ap}
use Rattle.std.proofs.Common.{subst, ◌∙◌, arith}
use Rattle.std.specs.List.{list_all, list_any, range_with_len}
use Rattle.std.proofs.lemmas.Bool.{cases_Bool, eq-eqb, eqb-true, false≢true}
use Rattle.std.proofs.Math.Seq.{drop-cons}
use Rattle.j39_variants.specs.declared.line.Alternative.{Alternative}
use Rattle.j39_variants.specs.declared.line.Choice.{Choice}
use Rattle.j39_line_findings.specs.Boxes.{is_one_alternative}
use Rattle.j39_line_findings.specs.FullVariants.{alternative_at}
use Rattle.j39_line_check.specs.SetVariants.{IsSetAmong, set_has, has_choice, has_each_choice, is_set_inside, is_of_some_set}
use Rattle.j39_line_check.specs.SetVariants.{takes_alone, takes_from}

-- ---- tests

pub both : (a b : Bool) → (a && b) ≡ true → (a ≡ true) × (b ≡ true)
both true b is = (refl, is)
both false b is = absurd (false≢true is)

pub and_so : (a b : Bool) → a ≡ true → b ≡ true → (a && b) ≡ true
and_so a b one other = rw (one, other) refl

pub one_itself : (a : Alternative) → is_one_alternative a a ≡ true
one_itself a = and_so (a.choice == a.choice) (a.place == a.place) (eq-eqb a.choice a.choice refl) (eq-eqb a.place a.place refl)

pub one_same : (a b : Alternative) → is_one_alternative a b ≡ true → a ≡ b
one_same a b is =
    let parts = both (a.choice == b.choice) (a.place == b.place) is in
    let choice = eqb-true a.choice b.choice parts.0 in
    let place = eqb-true a.place b.place parts.1 in
    let same : alternative_at a.choice a.place ≡ alternative_at b.choice b.place = rw (choice, place) refl in
    same

-- ---- one inside another

-- what the one has, the other has
pub carried : (one other : List Alternative) (a : Alternative) → is_set_inside one other ≡ true → set_has one a ≡ true → set_has other a ≡ true
carried [] other a all any = absurd (false≢true any)
carried (b ∷ one) other a all any =
    let parts = both (set_has other b) (list_all (set_has other) one) all in
    elim (cases_Bool (is_one_alternative b a)) [
      | inl here ↦ subst (λ x. set_has other x ≡ true) (one_same b a here) parts.0
      | inr none ↦ carried one other a parts.1 (rw none at any)
    ]

has_head : (b : Alternative) (one : List Alternative) → set_has (b ∷ one) b ≡ true
has_head b one = rw (one_itself b) refl

has_behind : (b a : Alternative) (one : List Alternative) → set_has one a ≡ true → set_has (b ∷ one) a ≡ true
has_behind b a one is = elim (cases_Bool (is_one_alternative b a)) [
  | inl here ↦ rw here refl
  | inr none ↦ rw none is
]

pub inside_of : (one other : List Alternative) → ((a : Alternative) → set_has one a ≡ true → set_has other a ≡ true)
    → is_set_inside one other ≡ true
inside_of [] other has = refl
inside_of (b ∷ one) other has =
    and_so (set_has other b) (list_all (set_has other) one) (has b (has_head b one))
    (inside_of one other (λ a at. has a (has_behind b a one at)))

pub inside_itself : (set : List Alternative) → is_set_inside set set ≡ true
inside_itself set = inside_of set set (λ a at. at)

pub inside_through : (s t u : List Alternative) → is_set_inside s t ≡ true → is_set_inside t u ≡ true → is_set_inside s u ≡ true
inside_through s t u one other = inside_of s u (λ a at. carried t u a other (carried s t a one at))

-- ---- variants

pub takes_wider : (one other : List Alternative) (c : ℕ) (v : List ℕ) → is_set_inside one other ≡ true → takes_from one c v ≡ true → takes_from other c v ≡ true
takes_wider one other c [] inside is = refl
takes_wider one other c (p ∷ v) inside is =
    let parts = both (set_has one (alternative_at c p)) (takes_from one (c + 1) v) is in
    and_so (set_has other (alternative_at c p)) (takes_from other (c + 1) v)
    (carried one other (alternative_at c p) inside parts.0) (takes_wider one other (c + 1) v inside parts.1)

-- those of the first choices
pub takes_first : (set : List Alternative) (c : ℕ) (t r : List ℕ) → takes_from set c (t ++ r) ≡ true → takes_from set c t ≡ true
takes_first set c [] r is = refl
takes_first set c (p ∷ t) r is =
    let parts = both (set_has set (alternative_at c p)) (takes_from set (c + 1) (t ++ r)) is in
    and_so (set_has set (alternative_at c p)) (takes_from set (c + 1) t) parts.0 (takes_first set (c + 1) t r parts.1)

has_its_choice : (set : List Alternative) (c p : ℕ) → set_has set (alternative_at c p) ≡ true → has_choice set c ≡ true
has_its_choice [] c p is = absurd (false≢true is)
has_its_choice (b ∷ set) c p is = elim (cases_Bool (b.choice == c)) [
  | inl here ↦ rw here refl
  | inr none ↦ rw none (has_its_choice set c p (rw none at is))
]

has_choices : (set : List Alternative) (c : ℕ) (v : List ℕ) → takes_from set c v ≡ true → list_all (has_choice set) (range_with_len c (length v)) ≡ true
has_choices set c [] is = refl
has_choices set c (p ∷ v) is =
    let parts = both (set_has set (alternative_at c p)) (takes_from set (c + 1) v) is in
    and_so (has_choice set c) (list_all (has_choice set) (range_with_len (c + 1) (length v))) (has_its_choice set c p parts.0)
    (has_choices set (c + 1) v parts.1)

-- a set that a variant takes alone has some of each choice
pub has_each : (choices : List Choice) (set : List Alternative) (v : List ℕ) → length v ≡ length choices → takes_alone set v ≡ true
    → has_each_choice choices set ≡ true
has_each choices set v same is = subst (λ n. list_all (has_choice set) (range_with_len 0 n) ≡ true) same (has_choices set 0 v is)

-- ---- several sets

pub one_taken : (sets : List (List Alternative)) (v : List ℕ) → is_of_some_set sets v ≡ true
    → (s : List Alternative) × IsSetAmong sets s × (takes_alone s v ≡ true)
one_taken [] v is = absurd (false≢true is)
one_taken (s ∷ sets) v is = elim (cases_Bool (takes_alone s v)) [
  | inl here ↦ (s, inl refl, here)
  | inr none ↦ let rest = one_taken sets v (rw none at is) in (rest.0, inr rest.1, rest.2)
]

pub taken_one : (sets : List (List Alternative)) (s : List Alternative) (v : List ℕ) → IsSetAmong sets s → takes_alone s v ≡ true → is_of_some_set sets v ≡ true
taken_one [] s v at is = absurd at
taken_one (t ∷ sets) s v (inl same) is = let here : takes_alone t v ≡ true = ap (λ x. takes_alone x v) same ∙ is in rw here refl
taken_one (t ∷ sets) s v (inr more) is = elim (cases_Bool (takes_alone t v)) [
  | inl here ↦ rw here refl
  | inr none ↦ rw none (taken_one sets s v more is)
]

pub any_first : (sets : List (List Alternative)) (t r : List ℕ) → is_of_some_set sets (t ++ r) ≡ true → is_of_some_set sets t ≡ true
any_first sets t r is = let one = one_taken sets (t ++ r) is in taken_one sets one.0 t one.1 (takes_first one.0 0 t r one.2)

-- ---- in turn

-- of values that stand for them
pub any_values : {V : Type 0} (f : V → List Alternative) (p : List Alternative → Bool) (xs : List V) → list_any (λ x. p (f x)) xs ≡ list_any p (map f xs)
any_values f p [] = refl
any_values f p (x ∷ xs) = ap (λ b. p (f x) || b) (any_values f p xs)

-- the next alternative that is taken
pub takes_next : (set : List Alternative) (v : List ℕ) (i d : ℕ) → i < length v
    → takes_from set i (drop i v) ≡ (set_has set (alternative_at i (get_or v i d)) && takes_from set (i + 1) (drop (i + 1) v))
takes_next set v i d below =
    let one : suc i ≡ i + 1 = omega arith in
    ap (takes_from set i) (drop-cons v i d below)
    ∙ ap (λ (k : ℕ). set_has set (alternative_at i (get_or v i d)) && takes_from set (i + 1) (drop k v)) one
