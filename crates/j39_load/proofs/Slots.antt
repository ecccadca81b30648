-- A bus on which frames of 80 bits come one behind the other, none of which waits: it is legal, whoever keeps order.
use Rattle.std.proofs.Common.{◌≡◌, ℕ, ◌+◌, ◌*◌, ◌<◌, ◌≤◌, inl, inr, arith}
use Rattle.std.proofs.Math.Nat.{mul-le-mul_left}
use Rattle.std.proofs.lemmas.Bool.{cases_eq, cases_lt}
use Rattle.j39_timing.specs.AnyOrder.{Controllers, IsLegalInAnyOrder}
use Rattle.j39_timing.specs.TimedFrames.{Schedule, IsLegal}

abbrev pub slots : ℕ → ℕ → (ℕ → ℕ) → Schedule
slots width n ident = record {
  count = n;
  queued = λ p. p * width;
  start = λ p. p * width;
  bits = λ p. 80;
  ident = ident;
  now = n * width;
}

-- one slot has ended where the next one begins
pub ends_before : (width p q : ℕ) → p < q → p * width + width ≤ q * width
ends_before width p q less = let most : width * (p + 1) ≤ width * q = mul-le-mul_left width (omega (arith, less)) in omega (arith, most)

one_slot : (width p q t : ℕ) → 80 ≤ width → (p * width ≤ t) × (t < p * width + 80) → (q * width ≤ t) × (t < q * width + 80) → p ≡ q
one_slot width p q t wide on_p on_q =
    let (a, b) = on_p in
    let (c, d) = on_q in
    elim (cases_lt p q) [
      | inl less ↦ absurd (let far = ends_before width p q less in omega (arith, far, wide, b, c))
      | inr more ↦ elim (cases_eq p q) [
        | inl same ↦ same
        | inr other ↦ absurd (let far = ends_before width q p (omega (arith, more, other)) in omega (arith, far, wide, a, d))
      ]
    ]

pub slots_legal : (width n : ℕ) (ident : ℕ → ℕ) → 80 ≤ width → IsLegal (slots width n ident)
slots_legal width n ident wide = record {
  positive = λ p in_p. omega arith;
  queued_first = λ p in_p. omega arith;
  alone = λ p q t in_p in_q seen on_p on_q. one_slot width p q t wide on_p on_q;
  never_idle = λ p t in_p seen waits. absurd (let (a, b) = waits in omega (arith, a, b));
  in_order = λ p q in_p in_q seen waits. absurd (let (a, b) = waits in omega (arith, a, b));
}

pub slots_any_order : (width n : ℕ) (ident : ℕ → ℕ) (controllers : Controllers) → 80 ≤ width → IsLegalInAnyOrder (slots width n ident) controllers
slots_any_order width n ident controllers wide = record {
  positive = λ p in_p. omega arith;
  queued_first = λ p in_p. omega arith;
  alone = λ p q t in_p in_q seen on_p on_q. one_slot width p q t wide on_p on_q;
  never_idle = λ p t in_p seen waits. absurd (let (a, b) = waits in omega (arith, a, b));
  in_order = λ p q in_p in_q seen waits. absurd (let (a, b) = waits in omega (arith, a, b));
}
