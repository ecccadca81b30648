-- Numbers that decimal digits spell.
use Rattle.std.proofs.Common.{◌≡◌, ℕ, ◌+◌, ◌-◌, ◌*◌, ◌<◌, ◌≤◌, true, ◌&&◌, List, [], ◌∷◌, length, take, get_or, refl, sym, ap, ◌∙◌, arith}
use Rattle.std.proofs.lemmas.Bool.{and_parts, ltb-true}
use Rattle.std.proofs.lemmas.Int.Digits.{digits_value_more}
use Rattle.std.proofs.lemmas.Str.{digit_value_digit}
use Rattle.std.proofs.lemmas.Str.Parse.{numerals_by_value, tells_all_ascii_digits, tells_digits, digit_at, digits_value-take-le, digits_value_short}
use Rattle.std.specs.Char.{is_ascii_digit}
use Rattle.std.specs.List.{list_all}
use Rattle.std.specs.Str.{all_ascii_digits}
use Rattle.std.specs.Str.Parse.{AllDigits, digits_value}
use Rattle.j39_schedule.specs.Schedule.{is_number}

pub same_test : (ds : List ℕ) → list_all is_ascii_digit ds ≡ all_ascii_digits ds
same_test [] = refl
same_test (c ∷ ds) = ap (λ b. is_ascii_digit c && b) (same_test ds)

-- what a number is spelled by: digits, and few
spelled : (text : List ℕ) → is_number text ≡ true → AllDigits 10 text × (length text ≤ 9)
unfolding is_number
spelled text is =
    let short = and_parts _ _ (and_parts _ _ is).1 in
    let few = ltb-true (length text) 10 short.0 in
    ((numerals_by_value _ tells_all_ascii_digits).to text (sym (same_test text) ∙ short.1), omega arith)

pub digit_at_place : (text : List ℕ) (i : ℕ) → is_number text ≡ true → i < length text → (48 ≤ get_or text i 0) × (get_or text i 0 ≤ 57)
digit_at_place text i is inside = digit_at text i (spelled text is).0 inside

-- one more digit
pub number_with : (text : List ℕ) (i : ℕ) → is_number text ≡ true → i < length text
    → digits_value 10 (take (i + 1) text) ≡ digits_value 10 (take i text) * 10 + (get_or text i 0 - 48)
number_with text i is inside =
    let digit = digit_at_place text i is inside in
    omega (arith, digits_value_more 10 text i inside, digit_value_digit (get_or text i 0) digit)

-- no front of the digits spells a greater number than 9 nines
pub number_until : (text : List ℕ) (i : ℕ) → is_number text ≡ true → digits_value 10 (take i text) < 1000000000
number_until text i is =
    let (digits, few) = spelled text is in
    omega (arith, digits_value-take-le 10 text i (omega arith), digits_value_short (numerals_by_value _ tells_digits) text 9 digits few)
