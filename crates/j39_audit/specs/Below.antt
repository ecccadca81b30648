-- What is so at the places below a number, from 0 on.
use Rattle.std.specs.Prelude.{ℕ, zero, suc, ◌+◌, min, ◌||◌, Bool, false, if◌then◌else◌, List, [], ◌++◌, Option, Some, None}
use Rattle.std.specs.Option.{option_or}

-- the lists of all places, joined
unfoldable pub each_below : {X : Type 0} → (ℕ → List X) → ℕ → List X
each_below list zero = []
each_below list (suc n) = each_below list n ++ list n

-- the sum of the numbers of all places
unfoldable pub sum_below : (ℕ → ℕ) → ℕ → ℕ
sum_below number zero = 0
sum_below number (suc n) = sum_below number n + number n

-- whether some place passes
unfoldable pub any_below : (ℕ → Bool) → ℕ → Bool
any_below test zero = false
any_below test (suc n) = any_below test n || test n

-- the first place that passes
unfoldable pub first_below : (ℕ → Bool) → ℕ → Option ℕ
first_below test zero = None
first_below test (suc n) = option_or (first_below test n) (if test n then Some n else None)

-- the least of the numbers of those places that have one
abbrev pub lesser_of : Option ℕ → Option ℕ → Option ℕ
lesser_of None b = b
lesser_of (Some a) None = Some a
lesser_of (Some a) (Some b) = Some (min a b)

unfoldable pub least_below : (ℕ → Option ℕ) → ℕ → Option ℕ
least_below number zero = None
least_below number (suc n) = lesser_of (least_below number n) (number n)
