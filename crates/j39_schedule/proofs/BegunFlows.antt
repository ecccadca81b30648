-- The number and the bytes of a message, as a schedule spells them.
use Rattle.std.proofs.Common.{◌≡◌, ℕ, ◌+◌, ◌-◌, ◌^◌, ◌<◌, ◌≤◌, true, List, length, Some, refl, sym, ◌∙◌, arith, inl, inr}
use Rattle.std.proofs.lemmas.Bool.{and_parts, cases_lt, leb-true, lt-leb, lt-ltb, ne_eqb, true≢false}
use Rattle.std.proofs.lemmas.Fmt.{decimal_nonempty, digits_decimal, digits_value-decimal, length-decimal-le}
use Rattle.std.proofs.lemmas.List.Elements.{All-weaker}
use Rattle.std.proofs.lemmas.List.Sums.{AllPass-from_list_all}
use Rattle.std.proofs.lemmas.Str.Parse.{numerals_by_value, tells_all_ascii_digits}
use Rattle.std.specs.Char.{is_ascii_digit}
use Rattle.std.specs.List.{list_all}
use Rattle.std.specs.Prelude.{decimal}
use Rattle.hex.specs.Hex.{encode_upper, is_hex_digit, upper_digits, IsBytes}
use Rattle.hex.proofs.HexLemmas.{decode_of-encode_upper, decode_of-ok, length-encode_with}
use Rattle.j39_network.specs.declared.plan.Plan.{Plan}
use Rattle.j39_schedule.specs.Schedule.{flow_place, is_number, spelled_number}
use Rattle.j39_schedule.proofs.Numbers.{same_test}
use Rattle.j39_schedule.proofs.TextWords.{IsWord}

-- ---- the number

digit_above : (c : ℕ) → is_ascii_digit c ≡ true → 32 < c
digit_above c is = let h = leb-true 48 c (and_parts _ _ is).0 in omega arith

are_digits : (n : ℕ) → n < 2 ^ 64 → list_all is_ascii_digit (decimal n) ≡ true
are_digits n fits = same_test (decimal n) ∙ digits_decimal (numerals_by_value _ tells_all_ascii_digits) n fits

pub number_word : (n : ℕ) → n < 1000 → IsWord (decimal n) × (length (decimal n) ≤ 3)
number_word n few =
    let fits : n < 2 ^ 64 = omega arith in (
      record {
        some = decimal_nonempty n fits;
        above = All-weaker (λ c. is_ascii_digit c ≡ true) (λ c. 32 < c) digit_above (decimal n)
            (AllPass-from_list_all is_ascii_digit (decimal n) (are_digits n fits));
      },
      length-decimal-le 3 n (omega arith) (omega arith) fits,
    )

pub number_is : (n : ℕ) → n < 1000 → spelled_number (decimal n) ≡ Some n
unfolding spelled_number is_number
number_is n few =
    let fits : n < 2 ^ 64 = omega arith in
    let some = lt-ltb 0 (length (decimal n)) (decimal_nonempty n fits) in
    let short = lt-ltb (length (decimal n)) 10 (omega (arith, (number_word n few).1)) in
    let digits = are_digits n fits in
    let value = digits_value-decimal (numerals_by_value _ tells_all_ascii_digits) n fits in
    rw (some, short, digits, value) refl

pub place_is : (plan : Plan) (f : ℕ) → flow_place plan (f + 1) ≡ f
place_is plan f =
    let other = ne_eqb (f + 1) 0 (λ e. omega arith) in
    let less : f + 1 - 1 ≡ f = omega arith in
    rw (other, less) refl

-- ---- the bytes

hex_above : (c : ℕ) → is_hex_digit c ≡ true → 32 < c
hex_above c is =
    elim (cases_lt 32 c) [
      | inl above ↦ above
      | inr low ↦
          let capital = lt-leb 65 c (omega arith) in
          let small = lt-leb 97 c (omega arith) in
          let digit = lt-leb 48 c (omega arith) in
          absurd (true≢false (sym (rw (capital, small, digit) at is)))
    ]

pub bytes_word : (bytes : List ℕ) → 0 < length bytes → IsBytes bytes → IsWord (encode_upper bytes)
bytes_word bytes some are =
    record {
      some = omega (arith, length-encode_with upper_digits bytes);
      above = All-weaker (λ c. is_hex_digit c ≡ true) (λ c. 32 < c) hex_above (encode_upper bytes)
          (decode_of-ok (encode_upper bytes) bytes (decode_of-encode_upper bytes are)).1;
    }
