-- What is known of a number that has several parts.
use Rattle.std.proofs.Common.{◌≡◌, ℕ, ◌+◌, Option, Some, None, refl, sym, ap}
use Rattle.std.proofs.lemmas.Option.{none-some, same_Some}
use Rattle.j39_load.specs.declared.waits.delay.Delay.{Delay}
use Rattle.j39_load.specs.declared.waits.delay.Delay.TheVariants.{Within, Beyond, Late, Long, Whole}
use Rattle.j39_vehicle_times.specs.Times.{bits_within, sum_known}

pub sum_some : (a b : Option ℕ) (n : ℕ) → sum_known a b ≡ Some n → (x : ℕ) × (y : ℕ) × (a ≡ Some x) × (b ≡ Some y) × (n ≡ x + y)
sum_some None b n is = absurd (none-some n is)
sum_some (Some x) None n is = absurd (none-some n is)
sum_some (Some x) (Some y) n is = (x, y, refl, refl, sym (same_Some (x + y) n is))

pub within_some : (d : Option Delay) (bits : ℕ) → bits_within d ≡ Some bits → d ≡ Some (Within bits)
within_some None bits is = absurd (none-some bits is)
within_some (Some (Within n)) bits is = ap (λ (m : ℕ). Some (Within m)) (same_Some n bits is)
within_some (Some (Beyond n)) bits is = absurd (none-some bits is)
within_some (Some Late) bits is = absurd (none-some bits is)
within_some (Some (Long n)) bits is = absurd (none-some bits is)
within_some (Some (Whole w)) bits is = absurd (none-some bits is)

pub some_cases : {A : Type 0} (o : Option A) → (P : Type 0) → (o ≡ None → P) → ((a : A) → o ≡ Some a → P) → P
some_cases None P none some = none refl
some_cases (Some a) P none some = some a refl
