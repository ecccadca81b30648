-- Bytes between two quotation marks.
use Rattle.std.specs.Prelude.{◌≡◌, ◌≢◌, ℕ, ◌<◌, ◌≤◌, List, [], ◌∷◌, ◌++◌, Bool, not, ◌&&◌, ◌||◌, ◌==◌, if◌then◌else◌, nat_le, All}
use Rattle.hex.specs.Hex.{encode_upper}

abbrev pub quotation_mark : ℕ
quotation_mark = 34

abbrev pub backslash : ℕ
backslash = 92

-- a visible ASCII character or a space, but neither of these two: it stands for itself
abbrev pub is_plain : ℕ → Bool
is_plain b = nat_le 32 b && (nat_le b 126 && not (b == quotation_mark || b == backslash))

-- each other byte is spelled by a backslash, an x and two capital digits
unfoldable pub spelled_byte : ℕ → List ℕ
spelled_byte b = if is_plain b then b ∷ [] else backslash ∷ 120 ∷ encode_upper (b ∷ [])

unfoldable pub spelled : List ℕ → List ℕ
spelled [] = []
spelled (b ∷ bytes) = spelled_byte b ++ spelled bytes

unfoldable pub quotation : List ℕ → List ℕ
quotation bytes = quotation_mark ∷ [] ++ (spelled bytes ++ quotation_mark ∷ [])

-- ---- a law

-- a character that stands between the marks is visible or a space, and no mark
abbrev pub IsBetweenMarks : ℕ → Type 0
IsBetweenMarks c = (32 ≤ c) × (c ≤ 126) × (c ≢ quotation_mark)

-- what stands between the marks ends where the second stands, and no other bytes are spelled so
pub record YieldsItsBytes (bytes : List ℕ) : Type 0 where
  pub inside : All IsBetweenMarks (spelled bytes)
  pub alone : (other : List ℕ) → All (λ b. b < 256) other → quotation other ≡ quotation bytes → other ≡ bytes

abbrev pub QuotationsYieldTheirBytes : Type 0
QuotationsYieldTheirBytes = (bytes : List ℕ) → All (λ b. b < 256) bytes → YieldsItsBytes bytes
