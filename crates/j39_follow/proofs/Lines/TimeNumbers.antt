-- Numbers of at most 12 digits.
use Rattle.std.proofs.Common.{◌≡◌, ℕ, ◌+◌, ◌-◌, ◌*◌, ◌<◌, ◌≤◌, zero, suc, true, ◌&&◌, nat_lt, codes, slice_index_or, List, [], ◌∷◌, ◌++◌, length}
use Rattle.std.proofs.Common.{take, get_or, refl, sym, ap, ◌∙◌, arith}
use Rattle.std.proofs.lemmas.Bool.{and_parts, ltb-true, and_from}
use Rattle.std.proofs.lemmas.Int.Digits.{digits_value_more}
use Rattle.std.proofs.lemmas.Str.{digit_value_digit}
use Rattle.std.proofs.lemmas.Str.Parse.{numerals_by_value, tells_all_ascii_digits, tells_digits, digit_at, digits_value-take-le, digits_value_short}
use Rattle.std.specs.Char.{is_ascii_digit}
use Rattle.std.specs.List.{list_all}
use Rattle.std.specs.Str.{all_ascii_digits}
use Rattle.std.specs.Str.Parse.{AllDigits, digits_value}
use Rattle.j39_follow.specs.LogLines.{are_seconds}

same_test : (ds : List ℕ) → list_all is_ascii_digit ds ≡ all_ascii_digits ds
same_test [] = refl
same_test (c ∷ ds) = ap (λ b. is_ascii_digit c && b) (same_test ds)

spelled : (text : List ℕ) → list_all is_ascii_digit text ≡ true → AllDigits 10 text
spelled text is = (numerals_by_value _ tells_all_ascii_digits).to text (sym (same_test text) ∙ is)

pub digit_at_place : (text : List ℕ) (i : ℕ) → list_all is_ascii_digit text ≡ true → i < length text → (48 ≤ get_or text i 0) × (get_or text i 0 ≤ 57)
digit_at_place text i is inside = digit_at text i (spelled text is) inside

-- one digit more
pub number_with : (text : List ℕ) (i : ℕ) → list_all is_ascii_digit text ≡ true → i < length text
    → digits_value 10 (take (i + 1) text) ≡ digits_value 10 (take i text) * 10 + (get_or text i 0 - 48)
number_with text i is inside =
    let digit = digit_at_place text i is inside in
    omega (arith, digits_value_more 10 text i inside, digit_value_digit (get_or text i 0) digit)

-- no front of 12 digits spells a greater number than 12 nines
pub number_until : (text : List ℕ) (i : ℕ) → list_all is_ascii_digit text ≡ true → length text ≤ 12 → digits_value 10 (take i text) < 1000000000000
number_until text i is few =
    omega (arith, digits_value-take-le 10 text i (omega arith), digits_value_short (numerals_by_value _ tells_digits) text 12 (spelled text is) few)

-- ---- six decimals

pub six_of : (ds : List ℕ) → slice_index_or ds 0 48 ∷ (slice_index_or ds 1 48 ∷ (slice_index_or ds 2 48 ∷ (slice_index_or ds 3 48
    ∷ (slice_index_or ds 4 48 ∷ (slice_index_or ds 5 48 ∷ []))))) ≡ take 6 (ds ++ codes "000000")
six_of [] = refl
six_of (a ∷ []) = refl
six_of (a ∷ (b ∷ [])) = refl
six_of (a ∷ (b ∷ (c ∷ []))) = refl
six_of (a ∷ (b ∷ (c ∷ (d ∷ [])))) = refl
six_of (a ∷ (b ∷ (c ∷ (d ∷ (e ∷ []))))) = refl
six_of (a ∷ (b ∷ (c ∷ (d ∷ (e ∷ (f ∷ rest)))))) = refl

all_taken : (n : ℕ) (xs : List ℕ) → list_all is_ascii_digit xs ≡ true → list_all is_ascii_digit (take n xs) ≡ true
all_taken zero xs all = refl
all_taken (suc n) [] all = refl
all_taken (suc n) (x ∷ xs) all =
    let parts = and_parts (is_ascii_digit x) (list_all is_ascii_digit xs) all in
    and_from (is_ascii_digit x) (list_all is_ascii_digit (take n xs)) parts.0 (all_taken n xs parts.1)

all_joined : (xs ys : List ℕ) → list_all is_ascii_digit xs ≡ true → list_all is_ascii_digit ys ≡ true → list_all is_ascii_digit (xs ++ ys) ≡ true
all_joined [] ys all rest = rest
all_joined (x ∷ xs) ys all rest =
    let parts = and_parts (is_ascii_digit x) (list_all is_ascii_digit xs) all in
    and_from (is_ascii_digit x) (list_all is_ascii_digit (xs ++ ys)) parts.0 (all_joined xs ys parts.1 rest)

pub six_digits : (ds : List ℕ) → list_all is_ascii_digit ds ≡ true → list_all is_ascii_digit (take 6 (ds ++ codes "000000")) ≡ true
six_digits ds all = all_taken 6 (ds ++ codes "000000") (all_joined ds (codes "000000") all refl)

pub few_of : (ds : List ℕ) → are_seconds ds ≡ true → (list_all is_ascii_digit ds ≡ true) × (length ds ≤ 12)
few_of ds is =
    let short = and_parts (nat_lt (length ds) 13) (list_all is_ascii_digit ds) (and_parts (nat_lt 0 (length ds)) _ is).1 in
    let few = ltb-true (length ds) 13 short.0 in
    (short.1, omega arith)
