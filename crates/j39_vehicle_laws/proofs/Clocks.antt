-- Bits of a bus and true time.
use Rattle.std.proofs.Common.{◌≡◌, ℕ, zero, suc, ◌+◌, ◌-◌, ◌*◌, ◌<◌, ◌≤◌, inl, inr, subst, arith}
use Rattle.std.proofs.lemmas.Bool.{cases_lt}
use Rattle.j39_vehicle_laws.specs.Gateways.{Clock, IsClock, steady, time_of}

-- bits in order are times in order
pub in_time_order : (c : Clock) → IsClock c → (m n : ℕ) → m ≤ n → time_of c m ≤ time_of c n
in_time_order c clock m n below =
    let least = clock.at_least m (n - m) in
    let at : m + (n - m) ≡ n = omega arith in
    subst (λ k. time_of c m ≤ time_of c k) at (omega (arith, least))

pub before_in_time : (c : Clock) → IsClock c → (m n : ℕ) → m < n → time_of c m < time_of c n
before_in_time c clock m n below =
    let least : c.time m + c.shortest * 1 ≤ c.time (m + 1) = clock.at_least m 1 in
    let some = clock.some_time in
    let order = in_time_order c clock (m + 1) n (omega arith) in
    omega (arith, least, some, order)

pub bits_in_order : (c : Clock) → IsClock c → (m n : ℕ) → time_of c m < time_of c n → m < n
bits_in_order c clock m n before = elim (cases_lt m n) [
  | inl below ↦ below
  | inr not_below ↦ absurd (let order = in_time_order c clock n m (omega arith) in omega (arith, order, before))
]

-- so many bits last no longer
pub lasts_at_most : (c : Clock) → IsClock c → (from to bits : ℕ) → to ≤ from + bits → time_of c to ≤ time_of c from + c.longest * bits
lasts_at_most c clock from to bits few =
    let order = in_time_order c clock to (from + bits) few in
    let most = clock.at_most from bits in
    omega (arith, order, most)

-- the bit of a time
pub bit_at : (c : Clock) → IsClock c → (from to t : ℕ) → time_of c from ≤ t → t < time_of c to
    → (b : ℕ) × (from ≤ b) × (time_of c b ≤ t) × (t < time_of c (b + 1))
bit_at c clock from zero t low high = absurd (let order = in_time_order c clock zero from (omega arith) in omega (arith, low, high, order))
bit_at c clock from (suc to) t low high = elim (cases_lt t (time_of c to)) [
  | inl before ↦ bit_at c clock from to t low before
  | inr here ↦
      let below : from < suc to = bits_in_order c clock from (suc to) (omega (arith, low, high)) in
      let same : suc to ≡ to + 1 = omega arith in
      (to, omega arith, omega (arith, here), subst (λ k. t < time_of c k) same high)
]

-- a clock all of whose bits are as long is one
pub steady_is : (phase unit : ℕ) → 0 < unit → IsClock (steady phase unit)
steady_is phase unit some = record {
  some_time = some;
  at_least = λ t bits. omega arith;
  at_most = λ t bits. omega arith;
}
