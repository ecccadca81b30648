-- A table of the values of digits, by byte.
use Rattle.std.proofs.Common.{◌≡◌, ◌≢◌, ℕ, zero, suc, ◌<◌, ◌==◌, Bool, true, ◌&&◌, inl, inr, List, ◌∷◌, ◌++◌, replicate, slice_index, Option, Some, None}
use Rattle.std.proofs.Common.{unwrap_or, Ok, Err, ap, refl, sym, ◌∙◌, arith}
use Rattle.std.proofs.lemmas.Bool.{and_parts, cases_lt, eqb-true}
use Rattle.hex.specs.Hex.{digit_or_error, hex_digit_value}
use Rattle.hex.specs.declared.error.FromHexError.TheVariants.{InvalidHexCharacter}

-- what the table says of a byte
abbrev entry_of : ℕ → ℕ
entry_of c = unwrap_or (hex_digit_value c) 255

-- the test of the first n entries, which computes
abbrev pub is_table : List ℕ → ℕ → Bool
is_table t zero = true
is_table t (suc n) = (slice_index t n == entry_of n) && is_table t n

-- an entry below n passed the test
is_table-at : (t : List ℕ) (n c : ℕ) → is_table t n ≡ true → c < n → slice_index t c ≡ entry_of c
is_table-at t zero c h lt = absurd (omega arith)
is_table-at t (suc n) c h lt =
    let parts = and_parts (slice_index t n == entry_of n) (is_table t n) h in
    elim (cases_lt c n) [
      | inl below ↦ is_table-at t n c parts.1 below
      | inr top ↦
          let e : c ≡ n = omega arith in
          rw e (eqb-true (slice_index t n) (entry_of n) parts.0)
    ]

-- a digit's value is no 255
value-not_255 : (c v : ℕ) → hex_digit_value c ≡ Some v → v < 255
value-not_255 c v h = grind (arith)

some_entry : (c i v : ℕ) (o : Option ℕ) → v ≡ unwrap_or o 255 → v ≢ 255 → Ok v ≡ digit_or_error c i o
some_entry c i v (Some w) e n = ap Ok e
some_entry c i v None e n = absurd (n e)

no_entry : (c i : ℕ) (o : Option ℕ) → ((v : ℕ) → o ≡ Some v → v < 255) → unwrap_or o 255 ≡ 255 → Err (InvalidHexCharacter c i) ≡ digit_or_error c i o
no_entry c i (Some w) small e = let lt = small w refl in absurd (omega arith)
no_entry c i None small e = refl

-- an entry that isn't 255 is the digit's value
pub entry-value : (t : List ℕ) (i c at : ℕ) → is_table t 256 ≡ true → i ≡ c → c < 256 → slice_index t i ≢ 255
    → Ok (slice_index t i) ≡ digit_or_error c at (hex_digit_value c)
entry-value t i c at h e lt n =
    let is : slice_index t i ≡ entry_of c = rw e (is_table-at t 256 c h lt) in
    some_entry c at (slice_index t i) (hex_digit_value c) is n

-- an entry of 255 is no digit's
pub entry-none : (t : List ℕ) (i c at : ℕ) → is_table t 256 ≡ true → i ≡ c → c < 256 → slice_index t i ≡ 255
    → Err (InvalidHexCharacter c at) ≡ digit_or_error c at (hex_digit_value c)
entry-none t i c at h e lt none =
    let is : slice_index t i ≡ entry_of c = rw e (is_table-at t 256 c h lt) in
    no_entry c at (hex_digit_value c) (value-not_255 c) (sym is ∙ none)

-- the table of the reader: 0 to 9, A to F and a to f stand at their bytes
abbrev pub values : List ℕ
values =
    replicate 48 255 ++ (0 ∷ 1 ∷ 2 ∷ 3 ∷ 4 ∷ 5 ∷ 6 ∷ 7 ∷ 8 ∷ 9 ∷ (replicate 7 255 ++ (10 ∷ 11 ∷ 12 ∷ 13 ∷ 14 ∷ 15
    ∷ (replicate 26 255 ++ (10 ∷ 11 ∷ 12 ∷ 13 ∷ 14 ∷ 15 ∷ replicate 153 255)))))
