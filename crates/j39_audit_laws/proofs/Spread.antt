-- Numbers that are a step apart, in whatever order, need room.
use Rattle.std.proofs.Common.{◌≡◌, ◌≢◌, ℕ, zero, suc, ◌+◌, ◌*◌, ◌≤◌, ◌⊎◌, cond, eqb, refl, subst, sym, arith, inl, inr}
use Rattle.std.proofs.lemmas.Bool.{cases_eq, cases_lt, eq-eqb, ne_eqb}
use Rattle.std.proofs.Math.Nat.{suc-mul}

-- a place up to n with the greatest number
greatest_up_to : (r : ℕ → ℕ) (n : ℕ) → (p : ℕ) × (p ≤ n) × ((k : ℕ) → k ≤ n → r k ≤ r p)
greatest_up_to r zero = (0, omega arith, λ k up. let same : k ≡ 0 = omega (arith, up) in subst (λ (l : ℕ). r l ≤ r 0) (sym same) (omega arith))
greatest_up_to r (suc n) =
    let (p, inside, most) = greatest_up_to r n in
    elim (cases_lt (r p) (r (suc n))) [
      | inl more ↦ (
        suc n,
        omega arith,
        λ k up. elim (cases_eq k (suc n)) [
          | inl same ↦ subst (λ (l : ℕ). r l ≤ r (suc n)) (sym same) (omega arith)
          | inr other ↦ let below = most k (omega (arith, up, other)) in omega (arith, below, more)
        ],
      )
      | inr less ↦ (
        p,
        omega (arith, inside),
        λ k up. elim (cases_eq k (suc n)) [
          | inl same ↦ subst (λ (l : ℕ). r l ≤ r p) (sym same) less
          | inr other ↦ most k (omega (arith, up, other))
        ],
      )
    ]

-- at place p what is at place n
moved : (ℕ → ℕ) → ℕ → ℕ → ℕ → ℕ
moved r p n k = cond (eqb k p) (r n) (r k)

moved_at : (r : ℕ → ℕ) (p n k : ℕ) → k ≡ p → moved r p n k ≡ r n
unfolding moved
moved_at r p n k same = let is = eq-eqb k p same in rw (is) refl

moved_off : (r : ℕ → ℕ) (p n k : ℕ) → k ≢ p → moved r p n k ≡ r k
unfolding moved
moved_off r p n k other = let isnt = ne_eqb k p other in rw (isnt) refl

-- each of the numbers that are left is one of all, at a place of its own, and not the one at p
left_is : (r : ℕ → ℕ) (p n : ℕ) → p ≤ suc n → (k : ℕ) → k ≤ n
    → (t : ℕ) × (t ≤ suc n) × (t ≢ p) × (moved r p (suc n) k ≡ r t) × (((k ≡ p) × (t ≡ suc n)) ⊎ ((k ≢ p) × (t ≡ k)))
left_is r p n inside k up = elim (cases_eq k p) [
  | inl same ↦ (suc n, omega arith, omega (arith, same, up), moved_at r p (suc n) k same, inl (same, refl))
  | inr other ↦ (k, omega (arith, up), other, moved_off r p (suc n) k other, inr (other, refl))
]

abbrev pub AllApart : ℕ → (ℕ → ℕ) → ℕ → Type 0
AllApart step r n = (k l : ℕ) → k ≤ n → l ≤ n → k ≢ l → (r k + step ≤ r l) ⊎ (r l + step ≤ r k)

pub spread : (step x n : ℕ) (r : ℕ → ℕ) → ((k : ℕ) → k ≤ n → x ≤ r k) → AllApart step r n → (p : ℕ) × (p ≤ n) × (x + n * step ≤ r p)
spread step x zero r from apart = let first = from 0 (omega arith) in (0, omega arith, omega (arith, first))
spread step x (suc n) r from apart =
    let (p, inside, most) = greatest_up_to r (suc n) in
    let rest : ℕ → ℕ = moved r p (suc n) in
    let rest_from : (k : ℕ) → k ≤ n → x ≤ rest k = λ k up.
    let (t, within, off, is, how) = left_is r p n inside k up in
    let low = from t within in
    omega (arith, low, is) in
    let rest_apart : AllApart step rest n = λ k l up_k up_l other.
    let (t, within_t, off_t, is_t, how_t) = left_is r p n inside k up_k in
    let (u, within_u, off_u, is_u, how_u) = left_is r p n inside l up_l in
    let differ : t ≢ u = λ same. elim how_t [
      | inl at_t ↦ elim how_u [
        | inl at_u ↦ other (omega (arith, at_t.0, at_u.0))
        | inr off ↦ absurd (omega (arith, at_t.1, off.1, same, up_l))
      ]
      | inr off ↦ elim how_u [
        | inl at_u ↦ absurd (omega (arith, at_u.1, off.1, same, up_k))
        | inr both ↦ other (omega (arith, off.1, both.1, same))
      ]
    ] in
    elim (apart t u within_t within_u differ) [
      | inl one ↦ inl (omega (arith, one, is_t, is_u))
      | inr two ↦ inr (omega (arith, two, is_t, is_u))
    ] in
    let (q, up, far) = spread step x n rest rest_from rest_apart in
    let (t, within, off, is, how) = left_is r p n inside q up in
    let greater = most t within in
    let more : suc n * step ≡ n * step + step = suc-mul n step in
    let above : r t + step ≤ r p = elim (apart t p within inside off) [
      | inl one ↦ one
      | inr two ↦ omega (arith, two, greater)
    ] in
    (p, inside, omega (arith, above, far, is, more))
