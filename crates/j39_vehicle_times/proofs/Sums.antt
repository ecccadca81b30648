-- Sums of numbers that may be known.
use Rattle.std.proofs.Common.{◌≡◌, ℕ, ◌+◌, Option, Some, None, refl, ap, sym, arith}
use Rattle.j39_vehicle_times.specs.Times.{sum_known}

pub sum_none : (a : Option ℕ) → sum_known a None ≡ None
sum_none None = refl
sum_none (Some a) = refl

-- what comes first may be added last
pub sum_turned : (b w o : Option ℕ) → sum_known (sum_known b w) o ≡ sum_known (sum_known w o) b
sum_turned None w o = sym (sum_none (sum_known w o))
sum_turned (Some b) None o = refl
sum_turned (Some b) (Some w) None = refl
sum_turned (Some b) (Some w) (Some o) = ap Some (omega arith)

pub sum_more : (a h : ℕ) (b : Option ℕ) → sum_known (Some a) (sum_known (Some h) b) ≡ sum_known (Some (a + h)) b
sum_more a h None = refl
sum_more a h (Some b) = ap Some (omega arith)

pub sum_zero : (a : Option ℕ) → sum_known (Some 0) a ≡ a
sum_zero None = refl
sum_zero (Some a) = ap Some (omega arith)

pub sum_swap : (a b : Option ℕ) → sum_known a b ≡ sum_known b a
sum_swap None b = sym (sum_none b)
sum_swap (Some a) None = refl
sum_swap (Some a) (Some b) = ap Some (omega arith)

pub sum_swapped : (g o w : Option ℕ) → sum_known (sum_known g o) w ≡ sum_known (sum_known g w) o
sum_swapped None o w = refl
sum_swapped (Some g) None w = sym (sum_none (sum_known (Some g) w))
sum_swapped (Some g) (Some o) None = refl
sum_swapped (Some g) (Some o) (Some w) = ap Some (omega arith)
