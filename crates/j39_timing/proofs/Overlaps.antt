-- Bits of a stretch that are covered by frames: no more than the frames have.
use Rattle.std.proofs.Common.{◌≡◌, ℕ, zero, suc, ◌+◌, ◌-◌, ◌<◌, ◌≤◌, Bool, true, false, cond, ◌&&◌, ltb, leb, refl, arith}
use Rattle.std.proofs.lemmas.Bool.{and_parts, leb-true, ltb-true}
use Rattle.j39_timing.specs.Sums.{total}
use Rattle.j39_timing.proofs.Sums.{total-le, total-less}

-- bit t is one of the b bits from a on
abbrev pub covers : ℕ → ℕ → ℕ → Bool
covers a b t = leb a t && ltb t (a + b)

-- how many of the m bits from u on are
unfoldable overlap : ℕ → ℕ → ℕ → ℕ → ℕ
overlap a b u zero = 0
overlap a b u (suc m) = overlap a b u m + cond (covers a b (u + m)) 1 0

-- no more than there are, and none before a
overlap-bounds : (a b u m : ℕ) → (overlap a b u m ≤ b) × (overlap a b u m ≤ (u + m) - a)
unfolding overlap
overlap-bounds a b u zero = (omega arith, omega arith)
overlap-bounds a b u (suc m) =
    let before = overlap-bounds a b u m in
    let small : overlap a b u m ≤ b = before.0 in
    let late : overlap a b u m ≤ (u + m) - a = before.1 in
    elim (covers a b (u + m)) as (λ e. covers a b (u + m) ≡ e → (overlap a b u m + cond e 1 0 ≤ b) × (overlap a b u m + cond e 1 0 ≤ (u + suc m) - a)) [
      | true ↦ λ is.
          let parts = and_parts (leb a (u + m)) (ltb (u + m) (a + b)) is in
          let low : a ≤ u + m = leb-true a (u + m) parts.0 in
          let high : u + m < a + b = ltb-true (u + m) (a + b) parts.1 in
          (omega arith, omega arith)
      | false ↦ λ _. (omega arith, omega arith)
    ] refl

overlap-more : (a b u m : ℕ) → overlap a b u m ≤ overlap a b u (suc m)
unfolding overlap
overlap-more a b u m = omega arith

overlap-one : (a b u m : ℕ) → covers a b (u + m) ≡ true → overlap a b u m + 1 ≤ overlap a b u (suc m)
unfolding overlap
overlap-one a b u m is = rw (is) (omega arith)

module _ (n : ℕ) (start bits : ℕ → ℕ) (chosen : ℕ → Bool) (u : ℕ) where
  part : ℕ → ℕ → ℕ
  part m p = cond (chosen p) (overlap (start p) (bits p) u m) 0

  -- where each of the m bits from u on is covered by one of the chosen frames, these overlap it in m bits at least
  overlapped : (m : ℕ) → ((t : ℕ) → t < m → (p : ℕ) × (p < n) × (chosen p ≡ true) × (covers (start p) (bits p) (u + t) ≡ true)) → m ≤ total n (part m)
  unfolding part
  overlapped zero each = omega arith
  overlapped (suc m) each =
      let before : m ≤ total n (part m) = overlapped m (λ t inside. each t (omega arith)) in
      let (p, inside, is, covered) = each m (omega arith) in
      let here : part m p + 1 ≤ part (suc m) p =
      rw (is) (overlap-one (start p) (bits p) u m covered) in
      let others : (i : ℕ) → i < n → part m i ≤ part (suc m) i = λ i _.
      elim (chosen i) as (λ e. cond e (overlap (start i) (bits i) u m) 0 ≤ cond e (overlap (start i) (bits i) u (suc m)) 0) [
        | true ↦ overlap-more (start i) (bits i) u m
        | false ↦ omega arith
      ] in
      let more : total n (part m) + 1 ≤ total n (part (suc m)) = total-less n (part m) (part (suc m)) p 1 inside here others in
      omega arith

  -- so they have m bits at least
  pub covered : (m : ℕ) → ((t : ℕ) → t < m → (p : ℕ) × (p < n) × (chosen p ≡ true) × (covers (start p) (bits p) (u + t) ≡ true))
      → m ≤ total n (λ p. cond (chosen p) (bits p) 0)
  unfolding part
  covered m each =
      let inside : m ≤ total n (part m) = overlapped m each in
      let small : total n (part m) ≤ total n (λ p. cond (chosen p) (bits p) 0) =
      total-le n (part m) (λ p. cond (chosen p) (bits p) 0) (λ i _.
      elim (chosen i) as (λ e. cond e (overlap (start i) (bits i) u m) 0 ≤ cond e (bits i) 0) [
        | true ↦ (overlap-bounds (start i) (bits i) u m).0
        | false ↦ omega arith
      ]) in
      omega arith
