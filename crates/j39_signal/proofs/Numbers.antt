-- The number of some bits of a payload.
use Rattle.std.proofs.Common.{◌≡◌, ℕ, zero, suc, ◌+◌, ◌*◌, ◌/◌, ◌%◌, ◌^◌, ◌<◌, List, sym, ap, ◌∙◌, arith}
use Rattle.std.specs.Int.{bit_at}
use Rattle.std.proofs.lemmas.Nat.{shr-shr, mod-pow-add}
use Rattle.std.proofs.Math.Nat.{div-one, mod-eq_of_lt}
use Rattle.j39_signal.specs.Bits.{bit, number_at}

-- where the bits are those of a number from its bit s on
pub number_at-from : (d : List ℕ) (start w s k : ℕ) → ((j : ℕ) → j < k → bit d (start + j) ≡ bit_at w (s + j)) → number_at d start k ≡ w / 2 ^ s % 2 ^ k
unfolding number_at
number_at-from d start w s zero same = omega arith
number_at-from d start w s (suc k) same =
    let below : number_at d start k ≡ w / 2 ^ s % 2 ^ k = number_at-from d start w s k (λ j h. same j (omega arith)) in
    let here : bit d (start + k) ≡ w / 2 ^ s / 2 ^ k % 2 = same k (omega arith) ∙ ap (λ n. n % 2) (sym (shr-shr w s k)) in
    let more : w / 2 ^ s % 2 ^ (1 + k) ≡ w / 2 ^ s / 2 ^ k % 2 * 2 ^ k + w / 2 ^ s % 2 ^ k = mod-pow-add (w / 2 ^ s) 1 k in
    let next : 1 + k ≡ suc k = omega arith in
    rw (below, here, ← next, more) (omega arith)

-- a number that has its bits from place start on
pub number_at-same : (d : List ℕ) (start n k : ℕ) → n < 2 ^ k → ((j : ℕ) → j < k → bit d (start + j) ≡ bit_at n j) → number_at d start k ≡ n
number_at-same d start n k range same =
    number_at-from d start n 0 k (λ j h. same j h ∙ ap (bit_at n) (omega arith)) ∙ ap (λ m. m % 2 ^ k) (div-one n) ∙ mod-eq_of_lt range
