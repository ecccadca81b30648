-- The variants that take alternatives of one of some sets alone are made choice by choice.
use Rattle.std.proofs.Common.{◌≡◌, ℕ, zero, suc, ◌+◌, ◌<◌, List, [], ◌∷◌, ◌++◌, Bool, true, filter, get_or, inl, inr, drop, length, map, refl, sym, ap, subst}
use Rattle.std.proofs.Common.{◌∙◌, arith, append_assoc}
use Rattle.std.specs.List.{list_any, range_with_len}
use Rattle.std.proofs.lemmas.Bool.{cases_Bool}
use Rattle.std.proofs.lemmas.List.{append-nil}
use Rattle.std.proofs.Math.Seq.{drop-cons}
use Rattle.j39_variants.specs.Variants.{IsEarlier, IsVariant}
use Rattle.j39_variants.specs.declared.line.Alternative.{Alternative}
use Rattle.j39_variants.specs.declared.line.Choice.{Choice}
use Rattle.j39_line_findings.specs.AllVariants.{IsOneOf, longer, with_each}
use Rattle.j39_line_findings.proofs.EveryVariant.{Fits, fits_from, fits_to, from_range, longer_from, longer_has}
use Rattle.j39_line_findings.proofs.OneOf.{one_cases}
use Rattle.j39_line_check.specs.SetVariants.{AreEarliestFirst, AreVariantsOfSets, is_of_some_set, takes_alone}
use Rattle.j39_line_check.proofs.Filters.{kept_one, kept_values, one_kept}
use Rattle.j39_line_check.proofs.Sets.{any_first, any_values}

-- those that begin a variant of one of the sets
abbrev pub keep : List (List Alternative) → List (List ℕ) → List (List ℕ)
keep sets taken = filter (is_of_some_set sets) taken

abbrev pub begun_behind : List (List Alternative) → List (List ℕ) → List Choice → List (List ℕ)
begun_behind sets taken [] = taken
begun_behind sets taken (choice ∷ choices) = begun_behind sets (keep sets (longer (length choice.alternatives.items) taken)) choices

abbrev pub begun : List (List Alternative) → List Choice → List (List ℕ)
begun sets choices = begun_behind sets (keep sets ([] ∷ [])) choices

-- ---- what is kept

pub kept_in_order : (p : List ℕ → Bool) (vs : List (List ℕ)) → AreEarliestFirst vs → AreEarliestFirst (filter p vs)
kept_in_order p [] is = tt
kept_in_order p (w ∷ vs) is = elim (cases_Bool (p w)) [
  | inl here ↦ rw here (λ x at. is.0 x (one_kept p vs x at).0, kept_in_order p vs is.1)
  | inr none ↦ rw none (kept_in_order p vs is.1)
]

-- of values that stand for them
pub kept_of_sets : {V W : Type 0} (f : V → List ℕ) (g : W → List Alternative) (sets : List W) (xs : List V)
    → map f (filter (λ x. list_any (λ s. takes_alone (g s) (f x)) sets) xs) ≡ keep (map g sets) (map f xs)
kept_of_sets f g sets xs =
    kept_values f (λ v. list_any (λ s. takes_alone (g s) v) sets) xs
    ∙ (λ i. filter (λ v. any_values g (λ s. takes_alone s v) sets i) (map f xs))

-- ---- order

earlier_longer : (v w x y : List ℕ) → IsEarlier v w → IsEarlier (v ++ x) (w ++ y)
earlier_longer [] w x y is = absurd is
earlier_longer (p ∷ v) [] x y is = absurd is
earlier_longer (p ∷ v) (q ∷ w) x y (inl less) = inl less
earlier_longer (p ∷ v) (q ∷ w) x y (inr (same, more)) = inr (same, earlier_longer v w x y more)

earlier_last : (t : List ℕ) (p q : ℕ) → p < q → IsEarlier (t ++ p ∷ []) (t ++ q ∷ [])
earlier_last [] p q less = inl less
earlier_last (r ∷ t) p q less = inr (refl, earlier_last t p q less)

each_in_order : (t : List ℕ) (a n : ℕ) → AreEarliestFirst (map (λ p. t ++ p ∷ []) (range_with_len a n))
each_in_order t a zero = tt
each_in_order t a (suc n) = (
  λ w at.
      let found = from_range (λ p. t ++ p ∷ []) (a + 1) n w at in
      subst (IsEarlier (t ++ a ∷ [])) found.2 (earlier_last t a (a + 1 + found.0) (omega arith)),
  each_in_order t (a + 1) n,
)

joined : (xs ys : List (List ℕ)) → AreEarliestFirst xs → AreEarliestFirst ys → ((x y : List ℕ) → IsOneOf xs x → IsOneOf ys y → IsEarlier x y)
    → AreEarliestFirst (xs ++ ys)
joined [] ys one other between = other
joined (v ∷ xs) ys one other between = (
  λ w at. elim (one_cases xs ys w at) [
    | inl left ↦ one.0 w left
    | inr right ↦ between v w (inl refl) right
  ],
  joined xs ys one.1 other (λ x y left right. between x y (inr left) right),
)

longer_in_order : (n : ℕ) (vs : List (List ℕ)) → AreEarliestFirst vs → AreEarliestFirst (longer n vs)
longer_in_order n [] is = tt
longer_in_order n (w ∷ vs) is =
    joined (with_each n w) (longer n vs) (each_in_order w 0 n) (longer_in_order n vs is.1) (λ x y left right.
    let one = from_range (λ p. w ++ p ∷ []) 0 n x left in
    let other = longer_from n vs y right in
    subst (λ z. IsEarlier z y) one.2
    (subst (IsEarlier (w ++ (0 + one.0) ∷ [])) (sym other.4)
    (earlier_longer w other.0 ((0 + one.0) ∷ []) (other.1 ∷ []) (is.0 other.0 other.2))))

begun_in_order : (sets : List (List Alternative)) (vs : List (List ℕ)) (cs : List Choice) → AreEarliestFirst vs → AreEarliestFirst (begun_behind sets vs cs)
begun_in_order sets vs [] is = is
begun_in_order sets vs (c ∷ cs) is =
    let n = length c.alternatives.items in
    begun_in_order sets (keep sets (longer n vs)) cs (kept_in_order (is_of_some_set sets) (longer n vs) (longer_in_order n vs is))

-- ---- which they are

reached : (sets : List (List Alternative)) (cs : List Choice) (vs : List (List ℕ)) (t v : List ℕ) → IsOneOf vs t → Fits cs v
    → is_of_some_set sets (t ++ v) ≡ true
    → IsOneOf (begun_behind sets vs cs) (t ++ v)
reached sets [] vs t [] at fits is = subst (IsOneOf vs) (sym (append-nil t)) at
reached sets [] vs t (p ∷ v) at fits is = absurd fits
reached sets (c ∷ cs) vs t [] at fits is = absurd fits
reached sets (c ∷ cs) vs t (p ∷ v) at fits is =
    let n = length c.alternatives.items in
    let whole : is_of_some_set sets ((t ++ p ∷ []) ++ v) ≡ true = ap (is_of_some_set sets) (append_assoc t (p ∷ []) v) ∙ is in
    let here : IsOneOf (keep sets (longer n vs)) (t ++ p ∷ []) =
    kept_one (is_of_some_set sets) (longer n vs) (t ++ p ∷ []) (longer_has n vs t p at fits.0) (any_first sets (t ++ p ∷ []) v whole) in
    subst (IsOneOf (begun_behind sets (keep sets (longer n vs)) cs)) (append_assoc t (p ∷ []) v)
    (reached sets cs (keep sets (longer n vs)) (t ++ p ∷ []) v here fits.1 whole)

came : (sets : List (List Alternative)) (cs : List Choice) (vs : List (List ℕ)) (w : List ℕ) → IsOneOf (begun_behind sets vs cs) w
    → (t : List ℕ) × (r : List ℕ) × IsOneOf vs t × Fits cs r × (w ≡ t ++ r)
came sets [] vs w at = (w, [], at, tt, sym (append-nil w))
came sets (c ∷ cs) vs w at =
    let n = length c.alternatives.items in
    let behind = came sets cs (keep sets (longer n vs)) w at in
    let last = longer_from n vs behind.0 (one_kept (is_of_some_set sets) (longer n vs) behind.0 behind.2).0 in (
      last.0,
      last.1 ∷ behind.1,
      last.2,
      (last.3, behind.3),
      behind.4 ∙ ap (λ x. x ++ behind.1) last.4 ∙ append_assoc last.0 (last.1 ∷ []) behind.1,
    )

all_of_any : (sets : List (List Alternative)) (cs : List Choice) (vs : List (List ℕ)) → ((t : List ℕ) → IsOneOf vs t → is_of_some_set sets t ≡ true)
    → (w : List ℕ) → IsOneOf (begun_behind sets vs cs) w → is_of_some_set sets w ≡ true
all_of_any sets [] vs all w at = all w at
all_of_any sets (c ∷ cs) vs all w at =
    let n = length c.alternatives.items in
    all_of_any sets cs (keep sets (longer n vs)) (λ t one. (one_kept (is_of_some_set sets) (longer n vs) t one).1) w at

pub are_begun : (sets : List (List Alternative)) (choices : List Choice) → AreVariantsOfSets choices sets (begun sets choices)
are_begun sets choices = record {
  complete = λ v is any.
      reached sets choices (keep sets ([] ∷ [])) [] v (kept_one (is_of_some_set sets) ([] ∷ []) [] (inl refl) (any_first sets [] v any))
      (fits_from choices v is) any;
  are_variants = λ v at.
      let made = came sets choices (keep sets ([] ∷ [])) v at in
      elim (one_kept (is_of_some_set sets) ([] ∷ []) made.0 made.2).0 [
        | inl none ↦
            let same : v ≡ made.1 = made.4 ∙ ap (λ t. t ++ made.1) (sym none) in
            subst (IsVariant choices) (sym same) (fits_to choices made.1 made.3)
        | inr more ↦ absurd more
      ];
  are_of_sets = all_of_any sets choices (keep sets ([] ∷ [])) (λ t one. (one_kept (is_of_some_set sets) ([] ∷ []) t one).1);
  in_order = begun_in_order sets (keep sets ([] ∷ [])) choices (kept_in_order (is_of_some_set sets) ([] ∷ []) (λ w at. absurd at, tt));
}

-- ---- in turn

-- the next choice
pub next_begun : (sets : List (List Alternative)) (choices : List Choice) (i : ℕ) (d : Choice) (vs ws : List (List ℕ)) → i < length choices
    → d ≡ get_or choices i d → ws ≡ keep sets (longer (length d.alternatives.items) vs)
    → begun_behind sets ws (drop (i + 1) choices) ≡ begun_behind sets vs (drop i choices)
next_begun sets choices i d vs ws below is same =
    let one : i + 1 ≡ suc i = omega arith in
    let split : drop i choices ≡ d ∷ drop (suc i) choices = drop-cons choices i d below ∙ ap (λ (x : Choice). x ∷ drop (suc i) choices) (sym is) in
    ap (λ (k : ℕ). begun_behind sets ws (drop k choices)) one
    ∙ ap (λ (xs : List (List ℕ)). begun_behind sets xs (drop (suc i) choices)) same
    ∙ ap (begun_behind sets vs) (sym split)
