-- Who is within the flags of a test: a variant of which each alternative that it takes passes it.
use Rattle.std.proofs.Common.{◌≡◌, ℕ, zero, suc, ◌+◌, ◌<◌, Bool, true, List, [], ◌∷◌, Some, map, length, refl, sym, ap, subst, ◌∙◌, arith}
use Rattle.std.specs.List.{range_with_len, slice_get}
use Rattle.std.proofs.lemmas.Bool.{and_from, and_parts, false≢true}
use Rattle.std.proofs.lemmas.Option.{same_Some, none-some}
use Rattle.j39_load.specs.LineLists.{lines_of_each}
use Rattle.j39_variants.specs.declared.line.Alternative.{Alternative}
use Rattle.j39_variants.specs.declared.line.Choice.{Choice}
use Rattle.j39_variants.specs.VariantPlans.{flag_at}
use Rattle.j39_variants.specs.Variants.{IsVariant}
use Rattle.j39_line_findings.specs.FullVariants.{alternative_at}
use Rattle.j39_line_findings.proofs.EveryVariant.{Fits, fits_from, fits_to}
use Rattle.j39_line_findings.proofs.Shown.{Passes}
use Rattle.j39_variant_search.specs.VariantSearch.{is_in_box}
use Rattle.j39_line_witnesses.specs.PartBoxes.{flags_by, flags_of_choice}

-- the flags of one choice
flag_below : (f : ℕ → Bool) (a n p : ℕ) → p < n → flag_at (map f (range_with_len a n)) p ≡ f (a + p)
flag_below f a zero p below = absurd (omega (arith, below))
flag_below f a (suc n) zero below = ap f (omega arith)
flag_below f a (suc n) (suc p) below = flag_below f (a + 1) n p (omega (arith, below)) ∙ ap f (omega arith)

flag_first : (f : ℕ → Bool) (n p : ℕ) → p < n → flag_at (map f (range_with_len 0 n)) p ≡ f p
flag_first f n p below = flag_below f 0 n p below ∙ ap f (omega arith)

flag_inside : (f : ℕ → Bool) (a n p : ℕ) → flag_at (map f (range_with_len a n)) p ≡ true → p < n
flag_inside f a zero p set = absurd (false≢true set)
flag_inside f a (suc n) zero set = omega arith
flag_inside f a (suc n) (suc p) set = let less = flag_inside f (a + 1) n p set in omega (arith, less)

-- of some choices, of which these stand from a place on
module _ (test : Alternative → Bool) where
  abbrev flags_from : ℕ → List Choice → List (List Bool)
  flags_from n choices = lines_of_each (λ c choice. flags_of_choice test c choice ∷ []) n choices

  abbrev PassFrom : ℕ → List ℕ → Type 0
  PassFrom n v = (c p : ℕ) → slice_get v c ≡ Some p → test (alternative_at (n + c) p) ≡ true

  within_fits : (n : ℕ) (cs : List Choice) (v : List ℕ) → is_in_box (flags_from n cs) v ≡ true → Fits cs v
  unfolding lines_of_each
  within_fits n [] [] is = tt
  within_fits n [] (p ∷ v) is = absurd (false≢true is)
  within_fits n (c ∷ cs) [] is = absurd (false≢true is)
  within_fits n (c ∷ cs) (p ∷ v) is =
      let both = and_parts (flag_at (flags_of_choice test n c) p) (is_in_box (flags_from (n + 1) cs) v) is in
      (flag_inside (λ p. test (alternative_at n p)) 0 (length c.alternatives.items) p both.0, within_fits (n + 1) cs v both.1)

  within_passes : (n : ℕ) (cs : List Choice) (v : List ℕ) → is_in_box (flags_from n cs) v ≡ true → PassFrom n v
  unfolding lines_of_each
  within_passes n [] [] is c p at = absurd (none-some p at)
  within_passes n [] (q ∷ v) is c p at = absurd (false≢true is)
  within_passes n (k ∷ cs) [] is c p at = absurd (false≢true is)
  within_passes n (k ∷ cs) (q ∷ v) is zero p at =
      let both = and_parts (flag_at (flags_of_choice test n k) q) (is_in_box (flags_from (n + 1) cs) v) is in
      let same : q ≡ p = same_Some q p at in
      let less = flag_inside (λ p. test (alternative_at n p)) 0 (length k.alternatives.items) q both.0 in
      let here : n + 0 ≡ n = omega arith in
      rw (here, ← same) (sym (flag_first (λ p. test (alternative_at n p)) (length k.alternatives.items) q less) ∙ both.0)
  within_passes n (k ∷ cs) (q ∷ v) is (suc c) p at =
      let both = and_parts (flag_at (flags_of_choice test n k) q) (is_in_box (flags_from (n + 1) cs) v) is in
      let next : (n + 1) + c ≡ n + suc c = omega arith in
      subst (λ m. test (alternative_at m p) ≡ true) next (within_passes (n + 1) cs v both.1 c p at)

  passing_within : (n : ℕ) (cs : List Choice) (v : List ℕ) → Fits cs v → PassFrom n v → is_in_box (flags_from n cs) v ≡ true
  unfolding lines_of_each
  passing_within n [] [] fits passes = refl
  passing_within n [] (p ∷ v) fits passes = absurd fits
  passing_within n (c ∷ cs) [] fits passes = absurd fits
  passing_within n (c ∷ cs) (p ∷ v) fits passes =
      let here : n + 0 ≡ n = omega arith in
      and_from (flag_at (flags_of_choice test n c) p) (is_in_box (flags_from (n + 1) cs) v)
      (flag_first (λ p. test (alternative_at n p)) (length c.alternatives.items) p fits.0
      ∙ subst (λ m. test (alternative_at m p) ≡ true) here (passes 0 p refl))
      (passing_within (n + 1) cs v fits.1 (λ d q at.
      let next : n + suc d ≡ (n + 1) + d = omega arith in
      subst (λ m. test (alternative_at m q) ≡ true) next (passes (suc d) q at)))

-- ---- of all choices

pub within_variant : (test : Alternative → Bool) (choices : List Choice) (v : List ℕ) → is_in_box (flags_by test choices) v ≡ true → IsVariant choices v
within_variant test choices v is = fits_to choices v (within_fits test 0 choices v is)

pub within_passing : (test : Alternative → Bool) (choices : List Choice) (v : List ℕ) → is_in_box (flags_by test choices) v ≡ true → Passes test v
within_passing test choices v is c p at =
    let here : 0 + c ≡ c = omega arith in
    subst (λ m. test (alternative_at m p) ≡ true) here (within_passes test 0 choices v is c p at)

pub passing_is_within : (test : Alternative → Bool) (choices : List Choice) (v : List ℕ) → IsVariant choices v → Passes test v
    → is_in_box (flags_by test choices) v ≡ true
passing_is_within test choices v is passes = passing_within test 0 choices v (fits_from choices v is) (λ c p at.
    let here : c ≡ 0 + c = omega arith in
    subst (λ m. test (alternative_at m p) ≡ true) here (passes c p at))
