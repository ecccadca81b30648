-- How many alternatives a box has: a part that lacks one has fewer.
use Rattle.std.proofs.Common.{◌≡◌, ℕ, zero, suc, ◌+◌, ◌<◌, ◌≤◌, List, [], ◌∷◌, Bool, true, false, length, refl, sym, arith}
use Rattle.std.proofs.lemmas.Bool.{false≢true}
use Rattle.j39_variants.specs.VariantPlans.{flag_at}
use Rattle.j39_variant_search.specs.inside.BoxParts.{has_alternative}

abbrev pub flag_count : List Bool → ℕ
flag_count [] = 0
flag_count (true ∷ flags) = flag_count flags + 1
flag_count (false ∷ flags) = flag_count flags

abbrev pub box_count : List (List Bool) → ℕ
box_count [] = 0
box_count (flags ∷ within) = flag_count flags + box_count within

at_most : (one other : List Bool) → ((p : ℕ) → flag_at one p ≡ true → flag_at other p ≡ true) → flag_count one ≤ flag_count other
at_most [] other all = omega arith
at_most (true ∷ one) [] all = absurd (false≢true (all 0 refl))
at_most (false ∷ one) [] all = at_most one [] (λ p is. all (suc p) is)
at_most (true ∷ one) (true ∷ other) all = let rest = at_most one other (λ p is. all (suc p) is) in omega (arith, rest)
at_most (true ∷ one) (false ∷ other) all = absurd (false≢true (all 0 refl))
at_most (false ∷ one) (true ∷ other) all = let rest = at_most one other (λ p is. all (suc p) is) in omega (arith, rest)
at_most (false ∷ one) (false ∷ other) all = at_most one other (λ p is. all (suc p) is)

fewer : (one other : List Bool) (p : ℕ) → ((p : ℕ) → flag_at one p ≡ true → flag_at other p ≡ true) → flag_at one p ≡ false → flag_at other p ≡ true
    → flag_count one < flag_count other
fewer one [] p all lacks there = absurd (false≢true there)
fewer [] (true ∷ other) p all lacks there = omega arith
fewer [] (false ∷ other) zero all lacks there = absurd (false≢true there)
fewer [] (false ∷ other) (suc p) all lacks there = fewer [] other p (λ q is. absurd (false≢true is)) refl there
fewer (true ∷ one) (b ∷ other) zero all lacks there = absurd (false≢true (sym lacks))
fewer (false ∷ one) (false ∷ other) zero all lacks there = absurd (false≢true there)
fewer (false ∷ one) (true ∷ other) zero all lacks there = let rest = at_most one other (λ q is. all (suc q) is) in omega (arith, rest)
fewer (true ∷ one) (true ∷ other) (suc p) all lacks there = let rest = fewer one other p (λ q is. all (suc q) is) lacks there in omega (arith, rest)
fewer (true ∷ one) (false ∷ other) (suc p) all lacks there = absurd (false≢true (all 0 refl))
fewer (false ∷ one) (true ∷ other) (suc p) all lacks there = let rest = fewer one other p (λ q is. all (suc q) is) lacks there in omega (arith, rest)
fewer (false ∷ one) (false ∷ other) (suc p) all lacks there = fewer one other p (λ q is. all (suc q) is) lacks there

box_at_most : (one other : List (List Bool)) → length one ≡ length other
    → ((k p : ℕ) → k < length other → has_alternative one k p ≡ true → has_alternative other k p ≡ true) → box_count one ≤ box_count other
box_at_most [] other same all = omega arith
box_at_most (f ∷ one) [] same all = absurd (omega arith)
box_at_most (f ∷ one) (g ∷ other) same all =
    let here = at_most f g (λ p is. all 0 p (omega arith) is) in
    let rest = box_at_most one other (omega arith) (λ k p below is. all (suc k) p (omega arith) is) in
    omega (arith, here, rest)

pub box_fewer : (one other : List (List Bool)) (k p : ℕ) → length one ≡ length other
    → ((k p : ℕ) → k < length other → has_alternative one k p ≡ true → has_alternative other k p ≡ true) → k < length other → has_alternative one k p ≡ false
    → has_alternative other k p ≡ true → box_count one < box_count other
box_fewer one [] k p same all below lacks there = absurd (omega arith)
box_fewer [] (g ∷ other) k p same all below lacks there = absurd (omega arith)
box_fewer (f ∷ one) (g ∷ other) zero p same all below lacks there =
    let here = fewer f g p (λ q is. all 0 q (omega arith) is) lacks there in
    let rest = box_at_most one other (omega arith) (λ k q less is. all (suc k) q (omega arith) is) in
    omega (arith, here, rest)
box_fewer (f ∷ one) (g ∷ other) (suc k) p same all below lacks there =
    let here = at_most f g (λ q is. all 0 q (omega arith) is) in
    let rest = box_fewer one other k p (omega arith) (λ j q less is. all (suc j) q (omega arith) is) (omega arith) lacks there in
    omega (arith, here, rest)
