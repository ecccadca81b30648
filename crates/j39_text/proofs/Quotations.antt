-- What a quotation says.
use Rattle.std.proofs.Common.{◌≡◌, ◌≢◌, ℕ, ◌+◌, ◌*◌, ◌/◌, ◌%◌, ◌<◌, ◌≤◌, ◌==◌, nat_le, List, [], ◌∷◌, ◌++◌, ◌⊎◌, Bool, true, false, not, ◌&&◌, ◌||◌}
use Rattle.std.proofs.Common.{if◌then◌else◌}
use Rattle.std.proofs.Common.{Option, Some, All, length, drop, get_or, slice_index, refl, sym, ap, ◌∙◌, append_assoc, inl, inr, arith}
use Rattle.std.proofs.lemmas.Bool.{cases_Bool, and_parts, or_parts, leb-true, ne_eqb, eqb-false, not-true}
use Rattle.std.proofs.lemmas.List.{drop_more}
use Rattle.std.proofs.lemmas.List.Elements.{All-append, All-cons, All-head, All-tail, All-nil}
use Rattle.std.proofs.lemmas.List.Sums.{AllPass-from_list_all}
use Rattle.std.proofs.lemmas.Option.{same_Some}
use Rattle.hex.specs.Hex.{encode_with, encode_upper, upper_digits, hex_digit_value}
use Rattle.hex.proofs.HexLemmas.{IsDigits-upper_digits}
use Rattle.j39_text.specs.Quotations.{is_plain, spelled_byte, spelled, quotation, IsBetweenMarks, YieldsItsBytes}

-- what is spelled from a byte on is this byte and those behind it
pub spelled_from : (bytes : List ℕ) (i d : ℕ) → i < length bytes
    → spelled (drop i bytes) ≡ spelled_byte (get_or bytes i d) ++ spelled (drop (i + 1) bytes)
unfolding spelled
spelled_from bytes i d more = let next = drop_more bytes i d more in rw next refl

-- ---- a byte

abbrev high : ℕ → ℕ
high b = slice_index upper_digits (b / 16)

abbrev low : ℕ → ℕ
low b = slice_index upper_digits (b % 16)

-- a byte that stands for itself is none of the two that don't
record IsPlain (b : ℕ) : Type 0 where
  pub inside : IsBetweenMarks b
  pub other : b ≢ 92
  pub spelled_is : spelled_byte b ≡ b ∷ []

abbrev IsSpelled : ℕ → Type 0
IsSpelled b = spelled_byte b ≡ 92 ∷ 120 ∷ high b ∷ low b ∷ []

plain : (b : ℕ) → is_plain b ≡ true → IsPlain b
unfolding spelled_byte
plain b is =
    let parts = and_parts (nat_le 32 b) (nat_le b 126 && not (b == 34 || b == 92)) is in
    let more = and_parts (nat_le b 126) (not (b == 34 || b == 92)) parts.1 in
    let others = or_parts (b == 34) (b == 92) (not-true (b == 34 || b == 92) more.1) in
    record {
      inside = (leb-true 32 b parts.0, leb-true b 126 more.0, eqb-false b 34 others.0);
      other = eqb-false b 92 others.1;
      spelled_is = rw is refl;
    }

spelled_other : (b : ℕ) → is_plain b ≡ false → IsSpelled b
unfolding spelled_byte encode_with
spelled_other b is = rw is refl

spelling : (b : ℕ) → IsPlain b ⊎ IsSpelled b
spelling b = elim (cases_Bool (is_plain b)) [ inl is ↦ inl (plain b is) | inr other ↦ inr (spelled_other b other) ]

-- ---- inside

abbrev inside_test : ℕ → Bool
inside_test c = nat_le 32 c && (nat_le c 126 && not (c == 34))

passes_inside : (c : ℕ) → inside_test c ≡ true → IsBetweenMarks c
passes_inside c is =
    let parts = and_parts (nat_le 32 c) (nat_le c 126 && not (c == 34)) is in
    let more = and_parts (nat_le c 126) (not (c == 34)) parts.1 in
    (leb-true 32 c parts.0, leb-true c 126 more.0, eqb-false c 34 (not-true (c == 34) more.1))

digit_inside : (d : ℕ) → d < 16 → IsBetweenMarks (slice_index upper_digits d)
digit_inside d small = passes_inside _ (AllPass-from_list_all inside_test upper_digits refl d 0 small)

byte_inside : (b : ℕ) → b < 256 → All IsBetweenMarks (spelled_byte b)
byte_inside b small = elim (spelling b) [
  | inl is ↦ rw is.spelled_is (All-cons IsBetweenMarks b [] is.inside (All-nil IsBetweenMarks))
  | inr is ↦
      let last : All IsBetweenMarks (low b ∷ []) = All-cons IsBetweenMarks (low b) [] (digit_inside (b % 16) (omega arith)) (All-nil IsBetweenMarks) in
      let both : All IsBetweenMarks (high b ∷ low b ∷ []) = All-cons IsBetweenMarks (high b) (low b ∷ []) (digit_inside (b / 16) (omega arith)) last in
      let behind : All IsBetweenMarks (120 ∷ high b ∷ low b ∷ []) = All-cons IsBetweenMarks 120 (high b ∷ low b ∷ []) (passes_inside 120 refl) both in
      rw is (All-cons IsBetweenMarks 92 (120 ∷ high b ∷ low b ∷ []) (passes_inside 92 refl) behind)
]

all_inside : (bytes : List ℕ) → All (λ b. b < 256) bytes → All IsBetweenMarks (spelled bytes)
unfolding spelled
all_inside [] small = All-nil IsBetweenMarks
all_inside (b ∷ bytes) small =
    All-append IsBetweenMarks (spelled_byte b) (spelled bytes) (byte_inside b (All-head (λ x. x < 256) b bytes small))
    (all_inside bytes (All-tail (λ x. x < 256) b bytes small))

-- ---- alone

digit_is : (c d : ℕ) → c < 16 → d < 16 → slice_index upper_digits c ≡ slice_index upper_digits d → c ≡ d
digit_is c d less more same =
    same_Some c d (sym (IsDigits-upper_digits c less) ∙ ap hex_digit_value same ∙ IsDigits-upper_digits d more)

byte_is : (b c : ℕ) → b < 256 → c < 256 → high b ≡ high c → low b ≡ low c → b ≡ c
byte_is b c less more highs lows =
    let h = digit_is (b / 16) (c / 16) (omega arith) (omega arith) highs in
    let l = digit_is (b % 16) (c % 16) (omega arith) (omega arith) lows in
    omega (arith, h, l)

heads : {x y : ℕ} {xs ys : List ℕ} → x ∷ xs ≡ y ∷ ys → x ≡ y
heads e = cc

tails : {x y : ℕ} {xs ys : List ℕ} → x ∷ xs ≡ y ∷ ys → xs ≡ ys
tails e = cc

-- a byte and what is behind it are reported by what they are spelled as
next_byte : (b c : ℕ) (r s : List ℕ) → b < 256 → c < 256 → spelled_byte b ++ r ≡ spelled_byte c ++ s → (b ≡ c) × (r ≡ s)
next_byte b c r s less more same = elim (spelling b) [
  | inl one ↦ elim (spelling c) [
    | inl other ↦ let e = rw (one.spelled_is, other.spelled_is) at same in (heads e, tails e)
    | inr other ↦ let e = rw (one.spelled_is, other) at same in absurd (one.other (heads e))
  ]
  | inr one ↦ elim (spelling c) [
    | inl other ↦ let e = rw (one, other.spelled_is) at same in absurd (other.other (sym (heads e)))
    | inr other ↦
        let e = tails (tails (rw (one, other) at same)) in
        (byte_is b c less more (heads e) (heads (tails e)), tails (tails e))
  ]
]

-- a byte isn't spelled as the mark
no_mark : (b : ℕ) (r s : List ℕ) → spelled_byte b ++ r ≢ 34 ∷ s
no_mark b r s same = elim (spelling b) [
  | inl is ↦ is.inside.2 (heads (rw is.spelled_is at same))
  | inr is ↦ let e = heads (rw is at same) in absurd (omega (arith, e))
]

same_bytes : (bs cs : List ℕ) → All (λ b. b < 256) bs → All (λ b. b < 256) cs → spelled bs ++ 34 ∷ [] ≡ spelled cs ++ 34 ∷ [] → bs ≡ cs
unfolding spelled
same_bytes [] [] less more same = refl
same_bytes [] (c ∷ cs) less more same = absurd (no_mark c (spelled cs ++ 34 ∷ []) [] (sym (rw append_assoc at same)))
same_bytes (b ∷ bs) [] less more same = absurd (no_mark b (spelled bs ++ 34 ∷ []) [] (rw append_assoc at same))
same_bytes (b ∷ bs) (c ∷ cs) less more same =
    let small = All-head (λ x. x < 256) b bs less in
    let little = All-head (λ x. x < 256) c cs more in
    let next = next_byte b c (spelled bs ++ 34 ∷ []) (spelled cs ++ 34 ∷ []) small little
    (sym (append_assoc (spelled_byte b) (spelled bs) (34 ∷ [])) ∙ same ∙ append_assoc (spelled_byte c) (spelled cs) (34 ∷ [])) in
    let rest = same_bytes bs cs (All-tail (λ x. x < 256) b bs less) (All-tail (λ x. x < 256) c cs more) next.1 in
    rw (next.0, rest) refl

pub report : (bytes : List ℕ) → All (λ b. b < 256) bytes → YieldsItsBytes bytes
unfolding quotation
report bytes small = record {
  inside = all_inside bytes small;
  alone = λ other little same. same_bytes other bytes little small (tails same);
}
