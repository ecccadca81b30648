-- The text of a number divided by a product of 2s and 5s: its sign, its whole part, and its decimals where it isn't whole.
use Rattle.std.specs.Prelude.{◌≡◌, ℕ, zero, suc, ◌+◌, ◌*◌, ◌/◌, ◌%◌, ◌^◌, ℤ, pos, negsuc, List, [], ◌∷◌, ◌++◌, ◌==◌, if◌then◌else◌, decimal}
use Rattle.std.specs.Fmt.{signed_decimal}
use Rattle.std.specs.List.{list_all}
use Rattle.j39_signal.specs.Parts.{IsDivisor}

-- no quotient has more decimals: each divisor divides 10 ^ 23
abbrev pub most_decimals : ℕ
most_decimals = 23

-- how often 10 ^ -23 goes into n / per: a whole number
unfoldable pub finest : ℕ → ℕ → ℕ
finest n per = n * 10 ^ most_decimals / per

-- the last digits of a number, so many of them, the highest first
unfoldable pub last_digits : ℕ → ℕ → List ℕ
last_digits zero n = []
last_digits (suc k) n = (48 + n / 10 ^ k % 10) ∷ last_digits k n

-- the digits without the zeros at their end
unfoldable pub without_zeros : List ℕ → List ℕ
without_zeros [] = []
without_zeros (d ∷ ds) = if list_all (λ e. e == 48) (d ∷ ds) then [] else d ∷ without_zeros ds

-- a point and the decimals, where there are some
unfoldable pub point_text : List ℕ → List ℕ
point_text [] = []
point_text (d ∷ ds) = 46 ∷ d ∷ ds

-- the whole part, and the decimals of what is left
unfoldable pub magnitude_text : ℕ → ℕ → List ℕ
magnitude_text per n =
    decimal (finest n per / 10 ^ most_decimals) ++ point_text (without_zeros (last_digits most_decimals (finest n per)))

unfoldable pub quotient_text : ℕ → ℤ → List ℕ
quotient_text per (pos n) = magnitude_text per n
quotient_text per (negsuc n) = 45 ∷ magnitude_text per (suc n)

-- ---- laws

-- these decimals are exact: nothing is left behind the last of them
abbrev pub QuotientsAreExact : Type 0
QuotientsAreExact = (n per : ℕ) → IsDivisor per → finest n per * per ≡ n * 10 ^ most_decimals

-- a number that isn't divided is shown as it is
abbrev pub UndividedStaysWhole : Type 0
UndividedStaysWhole = (v : ℤ) → quotient_text 1 v ≡ signed_decimal v
