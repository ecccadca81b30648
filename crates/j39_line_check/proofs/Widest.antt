-- Sets are added one after the other, where they count beside the others.
use Rattle.std.proofs.Common.{◌≡◌, List, [], ◌∷◌, ◌++◌, Bool, true, false, filter, inl, inr, map, not, refl, sym, subst}
use Rattle.std.specs.List.{list_any}
use Rattle.std.proofs.lemmas.Bool.{cases_Bool, false≢true, true≢false}
use Rattle.j39_variants.specs.declared.line.Alternative.{Alternative}
use Rattle.j39_variants.specs.declared.line.Choice.{Choice}
use Rattle.j39_line_findings.proofs.OneOf.{one_cases, one_left, one_right}
use Rattle.j39_line_check.specs.SetVariants.{AreNotNested, AreWidest, IsSetAmong, has_each_choice, is_set_inside, with_each_choice}
use Rattle.j39_line_check.proofs.Filters.{kept_one, kept_values, last_kept, last_left, one_kept}
use Rattle.j39_line_check.proofs.Sets.{inside_itself, inside_through}

-- ---- none inside another

kept_apart : (p : List Alternative → Bool) (xs : List (List Alternative)) → AreNotNested xs → AreNotNested (filter p xs)
kept_apart p [] is = tt
kept_apart p (x ∷ xs) is = elim (cases_Bool (p x)) [
  | inl here ↦ rw here (λ s at. is.0 s (one_kept p xs s at).0, kept_apart p xs is.1)
  | inr none ↦ rw none (kept_apart p xs is.1)
]

one_more_apart : (xs : List (List Alternative)) (n : List Alternative) → AreNotNested xs
    → ((s : List Alternative) → IsSetAmong xs s → (is_set_inside s n ≡ false) × (is_set_inside n s ≡ false)) → AreNotNested (xs ++ n ∷ [])
one_more_apart [] n is new = (λ s at. absurd at, tt)
one_more_apart (x ∷ xs) n is new = (
  λ s at. elim (one_cases xs (n ∷ []) s at) [
    | inl left ↦ is.0 s left
    | inr (inl same) ↦ subst (λ t. (is_set_inside x t ≡ false) × (is_set_inside t x ≡ false)) same (new x (inl refl))
    | inr (inr none) ↦ absurd none
  ],
  one_more_apart xs n is.1 (λ s at. new s (inr at)),
)

in_none : {V : Type 0} (f : V → List Alternative) (n : List Alternative) (xs : List V) → list_any (λ x. is_set_inside n (f x)) xs ≡ false
    → (s : List Alternative) → IsSetAmong (map f xs) s → is_set_inside n s ≡ false
in_none f n [] is s at = absurd at
in_none f n (x ∷ xs) is s at = elim (cases_Bool (is_set_inside n (f x))) [
  | inl here ↦ absurd (true≢false (rw here at is))
  | inr none ↦ elim at [
    | inl same ↦ subst (λ t. is_set_inside n t ≡ false) same none
    | inr more ↦ in_none f n xs (rw none at is) s more
  ]
]

in_some : {V : Type 0} (f : V → List Alternative) (n : List Alternative) (xs : List V) → list_any (λ x. is_set_inside n (f x)) xs ≡ true
    → (s : List Alternative) × IsSetAmong (map f xs) s × (is_set_inside n s ≡ true)
in_some f n [] is = absurd (false≢true is)
in_some f n (x ∷ xs) is = elim (cases_Bool (is_set_inside n (f x))) [
  | inl here ↦ (f x, inl refl, here)
  | inr none ↦ let rest = in_some f n xs (rw none at is) in (rest.0, inr rest.1, rest.2)
]

-- ---- one more

-- it is inside one of those kept
more_inside : (sets kept : List (List Alternative)) (n t : List Alternative) → AreWidest sets kept → IsSetAmong kept t → is_set_inside n t ≡ true
    → AreWidest (sets ++ n ∷ []) kept
more_inside sets kept n t is at inside = record {
  sound = λ s here. one_left sets (n ∷ []) s (is.sound s here);
  wide = λ s here. elim (one_cases sets (n ∷ []) s here) [
    | inl old ↦ is.wide s old
    | inr (inl same) ↦ (t, at, subst (λ u. is_set_inside u t ≡ true) same inside)
    | inr (inr none) ↦ absurd none
  ];
  apart = is.apart;
}

-- it is inside none of them, and those inside it are left out
more_outside : (sets kept : List (List Alternative)) (n : List Alternative) → AreWidest sets kept
    → ((s : List Alternative) → IsSetAmong kept s → is_set_inside n s ≡ false)
    → AreWidest (sets ++ n ∷ []) (filter (λ s. not (is_set_inside s n)) kept ++ n ∷ [])
more_outside sets kept n is none =
    let left : List (List Alternative) = filter (λ s. not (is_set_inside s n)) kept in
    record {
      sound = λ s at. elim (one_cases left (n ∷ []) s at) [
        | inl old ↦ one_left sets (n ∷ []) s (is.sound s (one_kept (λ u. not (is_set_inside u n)) kept s old).0)
        | inr new ↦ one_right sets (n ∷ []) s new
      ];
      wide = λ s at. elim (one_cases sets (n ∷ []) s at) [
        | inl old ↦
            let w = is.wide s old in
            elim (cases_Bool (is_set_inside w.0 n)) [
              | inl inside ↦ (n, one_right left (n ∷ []) n (inl refl), inside_through s w.0 n w.2 inside)
              | inr not_so ↦ (w.0, one_left left (n ∷ []) w.0 (kept_one (λ u. not (is_set_inside u n)) kept w.0 w.1 (rw not_so refl)), w.2)
            ]
        | inr new ↦ (
          n,
          one_right left (n ∷ []) n (inl refl),
          elim new [
            | inl same ↦ subst (λ u. is_set_inside u n ≡ true) same (inside_itself n)
            | inr nothing ↦ absurd nothing
          ],
        )
      ];
      apart =
          one_more_apart left n (kept_apart (λ u. not (is_set_inside u n)) kept is.apart) (λ s at.
          let k = one_kept (λ u. not (is_set_inside u n)) kept s at in (
            elim (cases_Bool (is_set_inside s n)) [
              | inl inside ↦ absurd (false≢true (rw inside at k.1))
              | inr not_so ↦ not_so
            ],
            none s k.0,
          ));
    }

-- ---- of those with each choice

module _ (choices : List Choice) (sets : List (List Alternative)) (n : List Alternative) where
  -- it lacks a choice
  pub add_lacking : (kept : List (List Alternative)) → has_each_choice choices n ≡ false → AreWidest (with_each_choice choices sets) kept
      → AreWidest (with_each_choice choices (sets ++ n ∷ [])) kept
  add_lacking kept none is = subst (λ xs. AreWidest xs kept) (sym (last_left (has_each_choice choices) sets n none)) is

  pub add_inside : {V : Type 0} (f : V → List Alternative) (kept : List V) → has_each_choice choices n ≡ true
      → list_any (λ x. is_set_inside n (f x)) kept ≡ true
      → AreWidest (with_each_choice choices sets) (map f kept) → AreWidest (with_each_choice choices (sets ++ n ∷ [])) (map f kept)
  add_inside f kept each inside is =
      let some = in_some f n kept inside in
      subst (λ xs. AreWidest xs (map f kept)) (sym (last_kept (has_each_choice choices) sets n each))
      (more_inside (with_each_choice choices sets) (map f kept) n some.0 is some.1 some.2)

  pub add_outside : {V : Type 0} (f : V → List Alternative) (kept : List V) → has_each_choice choices n ≡ true
      → list_any (λ x. is_set_inside n (f x)) kept ≡ false
      → AreWidest (with_each_choice choices sets) (map f kept)
      → AreWidest (with_each_choice choices (sets ++ n ∷ [])) (map f (filter (λ x. not (is_set_inside (f x) n)) kept) ++ n ∷ [])
  add_outside f kept each none is =
      subst (λ xs. AreWidest xs (map f (filter (λ x. not (is_set_inside (f x) n)) kept) ++ n ∷ [])) (sym (last_kept (has_each_choice choices) sets n each))
      (subst (λ ys. AreWidest (with_each_choice choices sets ++ n ∷ []) (ys ++ n ∷ [])) (sym (kept_values f (λ s. not (is_set_inside s n)) kept))
      (more_outside (with_each_choice choices sets) (map f kept) n is (in_none f n kept none)))

pub none_widest : (choices : List Choice) → AreWidest (with_each_choice choices []) []
none_widest choices = record {
  sound = λ s at. at;
  wide = λ s at. absurd at;
  apart = tt;
}
