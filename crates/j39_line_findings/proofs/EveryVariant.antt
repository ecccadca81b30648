-- Variants that go on as others begin, by their places.
use Rattle.std.proofs.Common.{◌≡◌, ℕ, zero, suc, ◌+◌, ◌<◌, List, [], ◌∷◌, ◌++◌, inl, inr, length, map, refl, sym, ap, subst, ◌∙◌, arith, add-zero}
use Rattle.std.specs.List.{range_with_len}
use Rattle.j39_variants.specs.declared.line.Choice.{Choice}
use Rattle.j39_variants.specs.Variants.{FitChoices, IsVariant}
use Rattle.j39_line_findings.specs.AllVariants.{IsOneOf, longer, with_each}
use Rattle.j39_line_findings.proofs.OneOf.{one_cases, one_left, one_right}

-- ---- by places

abbrev pub Fits : List Choice → List ℕ → Type 0
Fits [] [] = Unit {0}
Fits [] (p ∷ v) = ⊥
Fits (c ∷ cs) [] = ⊥
Fits (c ∷ cs) (p ∷ v) = (p < length c.alternatives.items) × Fits cs v

pub fits_from : (cs : List Choice) (v : List ℕ) → IsVariant cs v → Fits cs v
fits_from [] [] is = tt
fits_from [] (p ∷ v) is = let none = is.of_each in absurd (omega (arith, none))
fits_from (c ∷ cs) [] is = let none = is.of_each in absurd (omega (arith, none))
fits_from (c ∷ cs) (p ∷ v) is =
    let same = is.of_each in
    let all = is.fits in (
      all zero (omega arith),
      fits_from cs v (record { fits = λ k below. all (suc k) (omega (arith, below)); of_each = omega (arith, same) }),
    )

one_more_fits : (c : Choice) (cs : List Choice) (p : ℕ) (v : List ℕ) → p < length c.alternatives.items → FitChoices cs v → FitChoices (c ∷ cs) (p ∷ v)
one_more_fits c cs p v here rest zero below = here
one_more_fits c cs p v here rest (suc k) below = rest k (omega (arith, below))

pub fits_to : (cs : List Choice) (v : List ℕ) → Fits cs v → IsVariant cs v
fits_to [] [] is = record { fits = λ k below. absurd (omega (arith, below)); of_each = refl }
fits_to [] (p ∷ v) is = absurd is
fits_to (c ∷ cs) [] is = absurd is
fits_to (c ∷ cs) (p ∷ v) is =
    let rest = fits_to cs v is.1 in
    let same = rest.of_each in record { fits = one_more_fits c cs p v is.0 rest.fits; of_each = omega (arith, same) }

-- ---- each of so many

in_range : (f : ℕ → List ℕ) (a n k : ℕ) → k < n → IsOneOf (map f (range_with_len a n)) (f (a + k))
in_range f a zero k below = absurd (omega (arith, below))
in_range f a (suc n) zero below = inl (ap f (sym (add-zero a)))
in_range f a (suc n) (suc k) below =
    let next : a + 1 + k ≡ a + suc k = omega arith in
    inr (subst (λ m. IsOneOf (map f (range_with_len (a + 1) n)) (f m)) next (in_range f (a + 1) n k (omega (arith, below))))

pub from_range : (f : ℕ → List ℕ) (a n : ℕ) (v : List ℕ) → IsOneOf (map f (range_with_len a n)) v → (k : ℕ) × (k < n) × (f (a + k) ≡ v)
from_range f a zero v is = absurd is
from_range f a (suc n) v (inl is) = (zero, omega arith, ap f (add-zero a) ∙ is)
from_range f a (suc n) v (inr is) =
    let rest = from_range f (a + 1) n v is in
    let next : a + suc rest.0 ≡ a + 1 + rest.0 = omega arith in
    let below = rest.1 in (suc rest.0, omega (arith, below), ap f next ∙ rest.2)

each_has : (count : ℕ) (t : List ℕ) (p : ℕ) → p < count → IsOneOf (with_each count t) (t ++ p ∷ [])
each_has count t p below =
    let from : 0 + p ≡ p = omega arith in
    subst (λ m. IsOneOf (with_each count t) (t ++ m ∷ [])) from (in_range (λ q. t ++ q ∷ []) 0 count p below)

pub longer_has : (count : ℕ) (vs : List (List ℕ)) (t : List ℕ) (p : ℕ) → IsOneOf vs t → p < count → IsOneOf (longer count vs) (t ++ p ∷ [])
longer_has count [] t p is below = absurd is
longer_has count (w ∷ vs) t p (inl same) below =
    one_left (with_each count w) (longer count vs) (t ++ p ∷ [])
    (subst (λ x. IsOneOf (with_each count x) (t ++ p ∷ [])) (sym same) (each_has count t p below))
longer_has count (w ∷ vs) t p (inr more) below =
    one_right (with_each count w) (longer count vs) (t ++ p ∷ []) (longer_has count vs t p more below)

pub longer_from : (count : ℕ) (vs : List (List ℕ)) (v : List ℕ) → IsOneOf (longer count vs) v
    → (t : List ℕ) × (p : ℕ) × IsOneOf vs t × (p < count) × (v ≡ t ++ p ∷ [])
longer_from count [] v is = absurd is
longer_from count (w ∷ vs) v is = elim (one_cases (with_each count w) (longer count vs) v is) [
  | inl here ↦
      let found = from_range (λ q. w ++ q ∷ []) 0 count v here in
      let from : 0 + found.0 ≡ found.0 = omega arith in
      (w, found.0, inl refl, found.1, sym found.2 ∙ ap (λ q. w ++ q ∷ []) from)
  | inr more ↦ let found = longer_from count vs v more in (found.0, found.1, inr found.2, found.3, found.4)
]
