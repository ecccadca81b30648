-- The sets that count have one number of variants.
use Rattle.std.proofs.Common.{◌≡◌, ℕ, ◌+◌, List, [], ◌∷◌, ◌++◌, Bool, true, false, count_by, inl, inr, length, map, sum, refl, sym, ap, subst, ◌∙◌, arith}
use Rattle.std.specs.List.{range_with_len}
use Rattle.std.proofs.lemmas.Bool.{false≢true}
use Rattle.std.proofs.lemmas.List.{map-append}
use Rattle.std.proofs.lemmas.List.Sums.{sum_by-append, sum_by-cons}
use Rattle.j39_variants.specs.Variants.{size_at}
use Rattle.j39_variants.specs.declared.line.Alternative.{Alternative}
use Rattle.j39_variants.specs.declared.line.Choice.{Choice}
use Rattle.j39_variants.specs.declared.line.ProductLine.{ProductLine}
use Rattle.j39_line_findings.specs.FullVariants.{alternative_at}
use Rattle.j39_line_findings.specs.declared.full.FullAlternatives.{FullAlternatives}
use Rattle.j39_line_check.specs.SetVariantLaws.{HasOneNumber}
use Rattle.j39_line_check.specs.SetVariants.{AreNotNested, AreWidest, IsSetAmong, set_has, is_set_inside, product_of, variants_of_set}
use Rattle.j39_line_check.proofs.Sets.{carried, inside_through}
use Rattle.j39_line_findings.proofs.OneOf.{one_cases, one_left, one_right}

-- two sets have the same alternatives
record AreSame (s t : List Alternative) : Type 0 where
  to : is_set_inside s t ≡ true
  back : is_set_inside t s ≡ true

same_answer : (a b : Bool) → (a ≡ true → b ≡ true) → (b ≡ true → a ≡ true) → a ≡ b
same_answer true b to back = sym (to refl)
same_answer false true to back = back refl
same_answer false false to back = refl

-- such ones have as many variants
as_many : (choices : List Choice) (s t : List Alternative) → AreSame s t → variants_of_set choices s ≡ variants_of_set choices t
as_many choices s t same =
    let alike : (c p : ℕ) → set_has s (alternative_at c p) ≡ set_has t (alternative_at c p) =
    λ c p. same_answer (set_has s (alternative_at c p)) (set_has t (alternative_at c p))
    (carried s t (alternative_at c p) same.to) (carried t s (alternative_at c p) same.back) in
    λ i. product_of (map (λ c. count_by (λ p. alike c p i) (range_with_len 0 (size_at choices c))) (range_with_len 0 (length choices)))

-- ---- one for one

-- each of these has one among those with the same alternatives
abbrev HasEach : List (List Alternative) → List (List Alternative) → Type 0
HasEach these those = (s : List Alternative) → IsSetAmong these s → (t : List Alternative) × IsSetAmong those t × AreSame s t

record IsSplit (sets : List (List Alternative)) (t : List Alternative) : Type 0 where
  left : List (List Alternative)
  right : List (List Alternative)
  whole : sets ≡ left ++ t ∷ right

split : (sets : List (List Alternative)) (t : List Alternative) → IsSetAmong sets t → IsSplit sets t
split [] t at = absurd at
split (s ∷ sets) t (inl same) = record { left = []; right = sets; whole = ap (λ x. x ∷ sets) same }
split (s ∷ sets) t (inr more) = let r = split sets t more in record { left = s ∷ r.left; right = r.right; whole = ap (λ xs. s ∷ xs) r.whole }

apart_without : (xs ys : List (List Alternative)) (t : List Alternative) → AreNotNested (xs ++ t ∷ ys) → AreNotNested (xs ++ ys)
apart_without [] ys t is = is.1
apart_without (x ∷ xs) ys t is = (
  λ u at. is.0 u (elim (one_cases xs ys u at) [
    | inl left ↦ one_left xs (t ∷ ys) u left
    | inr right ↦ one_right xs (t ∷ ys) u (inr right)
  ]),
  apart_without xs ys t is.1,
)

-- the others aren't inside it
others_outside : (xs ys : List (List Alternative)) (t u : List Alternative) → AreNotNested (xs ++ t ∷ ys) → IsSetAmong (xs ++ ys) u → is_set_inside u t ≡ false
others_outside [] ys t u is at = (is.0 u at).1
others_outside (x ∷ xs) ys t u is (inl same) = subst (λ v. is_set_inside v t ≡ false) same (is.0 t (one_right xs (t ∷ ys) t (inl refl))).0
others_outside (x ∷ xs) ys t u is (inr more) = others_outside xs ys t u is.1 more

sum_split : (f : List Alternative → ℕ) (xs ys : List (List Alternative)) (t : List Alternative) → sum (map f (xs ++ t ∷ ys)) ≡ f t + sum (map f (xs ++ ys))
sum_split f xs ys t =
    let whole = ap sum (map-append f xs (t ∷ ys)) ∙ sum_by-append (λ n. n) (map f xs) (map f (t ∷ ys)) in
    let first = sum_by-cons (λ n. n) (f t) (map f ys) in
    let rest = ap sum (map-append f xs ys) ∙ sum_by-append (λ n. n) (map f xs) (map f ys) in
    omega (arith, whole, first, rest)

one_sum : (f : List Alternative → ℕ) → ((s t : List Alternative) → AreSame s t → f s ≡ f t) → (these those : List (List Alternative)) → AreNotNested these
    → AreNotNested those → HasEach these those → HasEach those these → sum (map f these) ≡ sum (map f those)
one_sum f alike [] [] one other to back = refl
one_sum f alike [] (t ∷ those) one other to back = absurd ((back t (inl refl)).1)
one_sum f alike (s ∷ these) those one other to back =
    let first = to s (inl refl) in
    let t = first.0 in
    let p = split those t first.1 in
    let rest : List (List Alternative) = p.left ++ p.right in
    let other_split : AreNotNested (p.left ++ t ∷ p.right) = subst AreNotNested p.whole other in
    let to_rest : HasEach these rest = λ u at.
    let m = to u (inr at) in
    elim (one_cases p.left (t ∷ p.right) m.0 (subst (λ xs. IsSetAmong xs m.0) p.whole m.1)) [
      | inl left ↦ (m.0, one_left p.left p.right m.0 left, m.2)
      | inr (inl same) ↦
          let inside : is_set_inside u s ≡ true =
          inside_through u m.0 s m.2.to (subst (λ x. is_set_inside x s ≡ true) same first.2.back) in
          absurd (false≢true (sym (one.0 u at).1 ∙ inside))
      | inr (inr right) ↦ (m.0, one_right p.left p.right m.0 right, m.2)
    ] in
    let back_rest : HasEach rest these = λ u at.
    let whole_at : IsSetAmong (p.left ++ t ∷ p.right) u = elim (one_cases p.left p.right u at) [
      | inl left ↦ one_left p.left (t ∷ p.right) u left
      | inr right ↦ one_right p.left (t ∷ p.right) u (inr right)
    ] in
    let m = back u (subst (λ xs. IsSetAmong xs u) (sym p.whole) whole_at) in
    elim m.1 [
      | inl same ↦
          let inside : is_set_inside u t ≡ true =
          inside_through u m.0 t m.2.to (subst (λ x. is_set_inside x t ≡ true) same first.2.to) in
          absurd (false≢true (sym (others_outside p.left p.right t u other_split at) ∙ inside))
      | inr more ↦ (m.0, more, m.2)
    ] in
    let more = one_sum f alike these rest one.1 (apart_without p.left p.right t other_split) to_rest back_rest in
    let here = sum_by-cons (λ n. n) (f s) (map f these) in
    let there = ap (λ xs. sum (map f xs)) p.whole ∙ sum_split f p.left p.right t in
    let same = alike s t first.2 in
    omega (arith, more, here, there, same)

-- ---- of the same sets

-- a set that is inside another one of these is that one
same_place : (kept : List (List Alternative)) (s u : List Alternative) → AreNotNested kept → IsSetAmong kept s → IsSetAmong kept u → is_set_inside s u ≡ true
    → s ≡ u
same_place [] s u is at other inside = absurd at
same_place (x ∷ kept) s u is (inl one) (inl two) inside = sym one ∙ two
same_place (x ∷ kept) s u is (inl one) (inr two) inside = absurd (false≢true (sym (is.0 u two).0 ∙ subst (λ v. is_set_inside v u ≡ true) (sym one) inside))
same_place (x ∷ kept) s u is (inr one) (inl two) inside = absurd (false≢true (sym (is.0 s one).1 ∙ subst (λ v. is_set_inside s v ≡ true) (sym two) inside))
same_place (x ∷ kept) s u is (inr one) (inr two) inside = same_place kept s u is.1 one two inside

each_widest : (sets kept others : List (List Alternative)) → AreWidest sets kept → AreWidest sets others → HasEach kept others
each_widest sets kept others one other s at =
    let t = other.wide s (one.sound s at) in
    let u = one.wide t.0 (other.sound t.0 t.1) in
    let same = same_place kept s u.0 one.apart at u.1 (inside_through s t.0 u.0 t.2 u.2) in
    (t.0, t.1, record { to = t.2; back = subst (λ v. is_set_inside t.0 v ≡ true) (sym same) u.2 })

pub one_number : (line : ProductLine) (full : FullAlternatives) → HasOneNumber line full
one_number line full m n one other =
    one.is_sum
    ∙ one_sum (variants_of_set line.choices.items) (as_many line.choices.items) one.kept other.kept one.are_widest.apart other.are_widest.apart
    (each_widest _ one.kept other.kept one.are_widest other.are_widest) (each_widest _ other.kept one.kept other.are_widest one.are_widest)
    ∙ sym other.is_sum
