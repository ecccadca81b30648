-- Digits that aren't read as a number are those of a large one.
use Rattle.std.proofs.Common.{◌≡◌, ℕ, ◌<◌, ◌&&◌, nat_le, cond, true, false, Bool, Option, List, [], ◌∷◌, length, Some, None, Result, Ok, refl, sym, ap, ◌∙◌}
use Rattle.std.proofs.Common.{arith, inl, inr}
use Rattle.std.specs.Prelude.{nat_lt}
use Rattle.std.proofs.Math.Bool.{and-false}
use Rattle.std.proofs.lemmas.Bool.{cases_lt, le-leb, lt-leb}
use Rattle.std.proofs.lemmas.Option.{none-some, same_Some}
use Rattle.std.proofs.lemmas.Str.Parse.{numerals_by_value, parse_gives, tells_all_ascii_digits}
use Rattle.std.specs.Char.{is_ascii_digit}
use Rattle.std.specs.List.{list_all}
use Rattle.std.specs.Str.{all_ascii_digits}
use Rattle.std.specs.Str.Parse.{ParsesUnsigned, digits_value}

same_test : (ds : List ℕ) → list_all is_ascii_digit ds ≡ all_ascii_digits ds
same_test [] = refl
same_test (c ∷ ds) = ap (λ b. is_ascii_digit c && b) (same_test ds)

pub too_large : {E : Type 0} (text : List ℕ) (r : Result ℕ E) → ParsesUnsigned 64 10 text r → list_all is_ascii_digit text ≡ true → 0 < length text
    → ((n : ℕ) → ¬ (r ≡ Ok n)) → None ≡ cond (nat_le (digits_value 10 text) 1000000) (Some (digits_value 10 text)) None
too_large text r parsed digits some fails = elim (cases_lt 1000000 (digits_value 10 text)) [
  | inl large ↦ rw (lt-leb (digits_value 10 text) 1000000 large) refl
  | inr small ↦
      let own = numerals_by_value _ tells_all_ascii_digits in
      absurd (fails (digits_value 10 text) (parse_gives own 64 text r parsed (sym (same_test text) ∙ digits) some (omega (arith, small))))
]

-- ---- numbers that are a gap's

abbrev quiet : ℕ → Option (Option ℕ)
quiet n = cond (nat_lt 0 n && nat_le n 1000) (Some (Some n)) None

same_number : (b : Bool) (n v : ℕ) → Some n ≡ cond b (Some v) None → n ≡ v
same_number true n v is = same_Some n v is
same_number false n v is = absurd (none-some n (sym is))

pub of_number : (n v : ℕ) → Some n ≡ cond (nat_le v 1000000) (Some v) None → quiet n ≡ quiet v
of_number n v is = ap quiet (same_number (nat_le v 1000000) n v is)

pub no_number : (v : ℕ) → None ≡ cond (nat_le v 1000000) (Some v) None → None ≡ quiet v
no_number v none = elim (cases_lt 1000000 v) [
  | inl large ↦ sym (ap (λ (b : Bool). cond (nat_lt 0 v && b) (Some (Some v)) None) (lt-leb v 1000 (omega (arith, large)))
      ∙ ap (λ (b : Bool). cond b (Some (Some v)) None) (and-false (nat_lt 0 v)))
  | inr small ↦ absurd (none-some v (none ∙ ap (λ (b : Bool). cond b (Some v) None) (le-leb v 1000000 (omega (arith, small)))))
]
