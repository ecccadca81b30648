-- Laws of frame lines: a line spells at most one frame, none that is refused does, and the canonical text spells its frame.
use Rattle.std.proofs.Common.{slice_range, ◌≡◌, ℕ, zero, suc, ◌+◌, ◌-◌, ◌<◌, ◌≤◌, ◌==◌, ◌||◌, true, false, List, [], ◌∷◌, ◌++◌, length, take, drop, get_or}
use Rattle.std.proofs.Common.{Option, Some, Result, Ok, Err, refl, sym, ap, ◌∙◌, inl, inr, ◌⊎◌, arith}
use Rattle.std.specs.List.{AllPass, All, position, position_or_len}
use Rattle.std.specs.Int.{w32, to_be_bytes, from_be_bytes}
use Rattle.std.specs.Prelude.{nat_lt, None, IfOk, IfErr}
use Rattle.std.specs.Option.{unwrap_or}
use Rattle.std.specs.Result.{result_unwrap_or}
use Rattle.std.proofs.lemmas.Bool.{cases_order, both_ways, true≢false, or_cases, eqb-true, false_from_ne_true, le-ltb, lt-ltb}
use Rattle.std.proofs.lemmas.List.{length-append, get_or_append_left, get_or_at, take_at, drop_at, drop-drop, append-nil}
use Rattle.std.proofs.lemmas.List.Elements.{All-append, All-cons, All-weaker}
use Rattle.std.proofs.lemmas.Nat.{from_be_bytes-to_be_bytes_4}
use Rattle.std.proofs.lemmas.List.Sums.{position_or_len_is}
use Rattle.hex.specs.Hex.{decode_of, decode_sized, encode_upper, upper_digits, is_hex_digit, IsBytes}
use Rattle.hex.specs.declared.error.FromHexError.{FromHexError}
use Rattle.hex.proofs.HexLemmas.{decode_sized-ok, decode_sized-twice, decode_of-ok, decode_of-encode_upper, length-encode_with}
use Rattle.j39_id.specs.FrameLine.{is_separator, IsLastWord, identifier_in, identifier_in_bytes, WordSpells, LineSpells, Spells, canon_text, is_hash}
use Rattle.j39_id.specs.FrameLine.{before_hash, after_hash, payload_digits, word_faults, IsFirstFault, HasLineFault}
use Rattle.j39_id.specs.FirstFault.{first_fault}
use Rattle.j39_id.specs.Ident.{bits, identifier_end}
use Rattle.j39_id.specs.Limits.{frame_bytes}
use Rattle.j39_id.specs.declared.frame.Frame.{Frame}
use Rattle.j39_id.specs.declared.line_error.LineError.{LineError}
use Rattle.j39_id.specs.declared.line_error.LineError.TheVariants.{Empty, NoHash, ShortIdent, BadIdent, TooLong, BadData}
use Rattle.j39_id.proofs.LastWord.{IsLastWordAt, places_of, word_between}
use Rattle.j39_id.proofs.SameFrame.{same_frame}

-- ---- the last word

-- a later end would have a separator in its word
end_not_later : (line : List ℕ) (a b c d : ℕ) → IsLastWordAt line a b → IsLastWordAt line c d → b < d → ⊥
end_not_later line a b c d x y h =
    both_ways (is_separator (get_or line (d - 1) 0))
    (y.whole (d - 1) 0 (omega (arith, y.some)) (omega arith))
    (x.last (d - 1) 0 (omega arith) (omega (arith, y.within)))

-- a later start would have a letter of the word before it
start_not_later : (line : List ℕ) (a c b : ℕ) → IsLastWordAt line a b → IsLastWordAt line c b → a < c → ⊥
start_not_later line a c b x y h =
    both_ways (is_separator (get_or line (c - 1) 0))
    (x.whole (c - 1) 0 (omega arith) (omega (arith, y.some)))
    (y.parted (omega arith))

-- a line has one last word
same_places : (line : List ℕ) (a b c d : ℕ) → IsLastWordAt line a b → IsLastWordAt line c d → (a ≡ c) × (b ≡ d)
same_places line a b c d x y =
    elim (cases_order b d) [
      | inl ends ↦
          elim (cases_order a c) [
            | inl starts ↦ (starts, ends)
            | inr other ↦
                elim other [
                  | inl less ↦ absurd (start_not_later line a c d (rw ends at x) y less)
                  | inr more ↦ absurd (start_not_later line c a d y (rw ends at x) more)
                ]
          ]
      | inr other ↦
          elim other [
            | inl less ↦ absurd (end_not_later line a b c d x y less)
            | inr more ↦ absurd (end_not_later line c d a b y x more)
          ]
    ]

pub same_last_word : (line v w : List ℕ) → IsLastWord line v → IsLastWord line w → v ≡ w
same_last_word line v w x y =
    let same = same_places line _ _ _ _ (places_of line v x) (places_of line w y) in
    word_between line v x ∙ ap (λ (i : ℕ). slice_range line i (length x.front + length v)) same.0
    ∙ ap (λ (j : ℕ). slice_range line (length y.front) j) same.1 ∙ sym (word_between line w y)

-- a line with a word isn't separators alone
pub not_blank : (line w : List ℕ) → IsLastWord line w → AllPass is_separator line → ⊥
not_blank line w x blank =
    let at = places_of line w x in
    both_ways (is_separator (get_or line (length x.front) 0))
    (at.whole (length x.front) 0 (omega arith) at.some)
    (blank (length x.front) 0 (omega (arith, at.some, at.within)))

-- ---- a word

-- four bytes that are an identifier's were read
identifier_bytes : (r : Result (List ℕ) FromHexError) (n : ℕ) → identifier_in_bytes r ≡ Some n → (bytes : List ℕ) × (r ≡ Ok bytes)
identifier_bytes (Ok bytes) n h = (bytes, refl)
identifier_bytes (Err e) n h = cc h

-- an identifier's digits are eight hex digits
pub identifier_digits : (digits : List ℕ) (n : ℕ) → identifier_in digits ≡ Some n → (length digits ≡ 8) × AllPass is_hex_digit digits
identifier_digits digits n h =
    let r = identifier_bytes (decode_sized digits 4) n h in
    let eight = decode_sized-ok digits 4 r.0 r.1 in
    (eight, (decode_of-ok digits r.0 (sym (decode_sized-twice digits 4 eight) ∙ r.1)).1)

-- a hex digit parts no words
separator_not_digit : (c : ℕ) → is_hex_digit c ≡ true → is_separator c ≡ true → ⊥
separator_not_digit c h s =
    elim (or_cases (c == 32) (c == 9 || c == 13) s) [
      | inl e ↦ let k : c ≡ 32 = eqb-true c 32 e in true≢false (sym (rw k at h))
      | inr o ↦
          elim (or_cases (c == 9) (c == 13) o) [
            | inl e ↦ let k : c ≡ 9 = eqb-true c 9 e in true≢false (sym (rw k at h))
            | inr e ↦ let k : c ≡ 13 = eqb-true c 13 e in true≢false (sym (rw k at h))
          ]
    ]

-- a hex digit is no hash
hash_not_digit : (c : ℕ) → is_hex_digit c ≡ true → is_hash c ≡ true → ⊥
hash_not_digit c h e = let k : c ≡ 35 = eqb-true c 35 e in true≢false (sym (rw k at h))

pub digit_is_whole : (c : ℕ) → is_hex_digit c ≡ true → is_separator c ≡ false
digit_is_whole c h = false_from_ne_true (is_separator c) (separator_not_digit c h)

digit_no_hash : (c : ℕ) → is_hex_digit c ≡ true → is_hash c ≡ false
digit_no_hash c h = false_from_ne_true (is_hash c) (hash_not_digit c h)

-- the first hash of a word that begins with digits stands behind them
hash_place : (digits rest : List ℕ) → AllPass is_hex_digit digits → position_or_len is_hash (digits ++ 35 ∷ rest) ≡ length digits
hash_place digits rest plain =
    let n : ℕ = length digits in
    let len : length (digits ++ 35 ∷ rest) ≡ n + suc (length rest) = length-append digits (35 ∷ rest) in
    position_or_len_is is_hash (digits ++ 35 ∷ rest) n 0 (omega (arith, len))
    (λ k below. rw (get_or_append_left digits (35 ∷ rest) 0 k below) (digit_no_hash (get_or digits k 0) (plain k 0 below)))
    (λ within. rw (get_or_at digits 35 rest 0 n refl) refl)

-- so there is one
hash_after : (digits rest : List ℕ) → AllPass is_hex_digit digits → position is_hash (digits ++ 35 ∷ rest) ≡ Some (length digits)
hash_after digits rest plain =
    let len : length (digits ++ 35 ∷ rest) ≡ length digits + suc (length rest) = length-append digits (35 ∷ rest) in
    let fits : nat_lt (length digits) (length (digits ++ 35 ∷ rest)) ≡ true = lt-ltb (length digits) (length (digits ++ 35 ∷ rest)) (omega (arith, len)) in
    rw (hash_place digits rest plain, fits) refl

-- a spelled word, cut at its first hash
pub record IsCut (word : List ℕ) (number : ℕ) (payload : List ℕ) : Type 0 where
  pub place : ℕ
  pub hash : position is_hash word ≡ Some place
  pub identifier : identifier_in (before_hash word) ≡ Some number
  pub room : length (after_hash word) ≤ payload_digits
  pub bytes : decode_of (after_hash word) ≡ Ok payload

pub cut_of : (word : List ℕ) (number : ℕ) (payload : List ℕ) → WordSpells word number payload → IsCut word number payload
cut_of word number payload s =
    let n : ℕ = length s.digits in
    let digits = identifier_digits s.digits number s.identifier in
    let place : position_or_len is_hash word ≡ n = ap (position_or_len is_hash) s.parts ∙ hash_place s.digits s.rest digits.1 in
    let front : before_hash word ≡ s.digits =
    ap (λ (i : ℕ). take i word) place ∙ ap (take n) s.parts ∙ take_at s.digits (35 ∷ s.rest) n refl in
    let back : after_hash word ≡ s.rest =
    ap (λ (i : ℕ). drop (i + 1) word) place ∙ sym (drop-drop 1 n word) ∙ ap (λ (xs : List ℕ). drop 1 (drop n xs)) s.parts
    ∙ ap (drop 1) (drop_at s.digits (35 ∷ s.rest) n refl) in
    record {
      place = n;
      hash = ap (position is_hash) s.parts ∙ hash_after s.digits s.rest digits.1;
      identifier = ap identifier_in front ∙ s.identifier;
      room = rw back s.room;
      bytes = ap decode_of back ∙ s.bytes;
    }

-- a word spells one number and one payload
pub same_word : (word : List ℕ) (m n : ℕ) (p q : List ℕ) → WordSpells word m p → WordSpells word n q → (m ≡ n) × (p ≡ q)
same_word word m n p q s t =
    let x = cut_of word m p s in
    let y = cut_of word n q t in (
      ap (λ (o : Option ℕ). unwrap_or o 0) (sym x.identifier ∙ y.identifier),
      ap (λ (r : Result (List ℕ) FromHexError). result_unwrap_or r []) (sym x.bytes ∙ y.bytes),
    )

-- a word that spells a frame has no fault
no_fault : (word : List ℕ) (n : ℕ) (p : List ℕ) → WordSpells word n p → first_fault (word_faults word) ≡ None
no_fault word n p s =
    let x = cut_of word n p s in
    let hash = x.hash in
    let identifier = x.identifier in
    let bytes = x.bytes in
    let eight = (identifier_digits (before_hash word) n identifier).0 in
    let room : nat_lt payload_digits (length (after_hash word)) ≡ false = le-ltb payload_digits (length (after_hash word)) x.room in
    rw (hash, identifier, eight, room, bytes) refl

pub word_sound : (word : List ℕ) (n : ℕ) (p : List ℕ) → WordSpells word n p → (e : LineError) → IsFirstFault word e → ⊥
word_sound word n p s e h = cc (sym (no_fault word n p s) ∙ h)

-- ---- a line

-- a line spells one number and one payload
pub one_frame : (line : List ℕ) (m n : ℕ) (p q : List ℕ) → LineSpells line m p → LineSpells line n q → (m ≡ n) × (p ≡ q)
one_frame line m n p q x y =
    same_word y.0 m n p q (rw (same_last_word line x.0 y.0 x.1 y.1) at x.2) y.2

-- a fault of a word isn't that of a line that spells a frame
fault_of_other : (line w : List ℕ) (n : ℕ) (p : List ℕ) (e : LineError) → LineSpells line n p → IsLastWord line w → IsFirstFault w e → ⊥
fault_of_other line w n p e x last fault = word_sound w n p (rw (same_last_word line x.0 w x.1 last) at x.2) e fault

-- a line that spells a frame has no fault
pub spelled_not_refused : (line : List ℕ) (n : ℕ) (p : List ℕ) (e : LineError) → LineSpells line n p → HasLineFault line e → ⊥
spelled_not_refused line n p Empty x h = not_blank line x.0 x.1 h
spelled_not_refused line n p NoHash x h = fault_of_other line h.0 n p NoHash x h.1 h.2
spelled_not_refused line n p ShortIdent x h = fault_of_other line h.0 n p ShortIdent x h.1 h.2
spelled_not_refused line n p BadIdent x h = fault_of_other line h.0 n p BadIdent x h.1 h.2
spelled_not_refused line n p TooLong x h = fault_of_other line h.0 n p TooLong x h.1 h.2
spelled_not_refused line n p BadData x h = fault_of_other line h.0 n p BadData x h.1 h.2

-- a fault is that of a blank line, or the first of the last word
fault_cases : (line : List ℕ) (e : LineError) → HasLineFault line e
    → (AllPass is_separator line × (e ≡ Empty)) ⊎ ((w : List ℕ) × IsLastWord line w × IsFirstFault w e)
fault_cases line Empty h = inl (h, refl)
fault_cases line NoHash h = inr h
fault_cases line ShortIdent h = inr h
fault_cases line BadIdent h = inr h
fault_cases line TooLong h = inr h
fault_cases line BadData h = inr h

-- a word has one first fault
same_fault : (w : List ℕ) (d e : LineError) → IsFirstFault w d → IsFirstFault w e → d ≡ e
same_fault w d e x y = cc (sym x ∙ y)

-- a line has one fault
pub one_fault : (line : List ℕ) (d e : LineError) → HasLineFault line d → HasLineFault line e → d ≡ e
one_fault line d e x y =
    elim (fault_cases line d x) [
      | inl a ↦
          elim (fault_cases line e y) [
            | inl b ↦ a.1 ∙ sym b.1
            | inr b ↦ absurd (not_blank line b.0 b.1 a.0)
          ]
      | inr a ↦
          elim (fault_cases line e y) [
            | inl b ↦ absurd (not_blank line a.0 a.1 b.0)
            | inr b ↦ same_fault a.0 d e a.2 (rw (same_last_word line b.0 a.0 b.1 a.1) at b.2)
          ]
    ]

-- ---- the canonical text

-- the digits of bytes are hex digits
digits_of_bytes : (bs : List ℕ) → IsBytes bs → AllPass is_hex_digit (encode_upper bs)
digits_of_bytes bs h = (decode_of-ok (encode_upper bs) bs (decode_of-encode_upper bs h)).1

-- digits are parted by nothing
whole_digits : (bs : List ℕ) → IsBytes bs → All (λ c. is_separator c ≡ false) (encode_upper bs)
whole_digits bs h = All-weaker (λ c. is_hex_digit c ≡ true) (λ c. is_separator c ≡ false) digit_is_whole (encode_upper bs) (digits_of_bytes bs h)

-- the four bytes of a number
IsBytes-number : (n : ℕ) → IsBytes (to_be_bytes w32 n)
IsBytes-number n zero = omega arith
IsBytes-number n (suc zero) = omega arith
IsBytes-number n (suc (suc zero)) = omega arith
IsBytes-number n (suc (suc (suc zero))) = omega arith
IsBytes-number n (suc (suc (suc (suc i)))) = omega arith

-- the eight digits of a number stand for it
identifier_in-canon : (n : ℕ) → n < identifier_end → identifier_in (encode_upper (to_be_bytes w32 n)) ≡ Some n
identifier_in-canon n h =
    let bs : List ℕ = to_be_bytes w32 n in
    let len : length (encode_upper bs) ≡ 8 = length-encode_with upper_digits bs in
    let read : decode_sized (encode_upper bs) 4 ≡ Ok bs =
    decode_sized-twice (encode_upper bs) 4 len ∙ decode_of-encode_upper bs (IsBytes-number n) in
    let value : from_be_bytes w32 bs ≡ n = from_be_bytes-to_be_bytes_4 n (omega arith) in
    let fits : nat_lt n identifier_end ≡ true = lt-ltb n identifier_end h in
    ap identifier_in_bytes read ∙ rw (value, fits) refl

pub canon_spells : (n : ℕ) (p : List ℕ) → n < identifier_end → length p ≤ frame_bytes → IsBytes p → LineSpells (canon_text n p) n p
canon_spells n p h room bytes =
    let text : List ℕ = canon_text n p in
    let digits : List ℕ = encode_upper (to_be_bytes w32 n) in
    let len : length text ≡ length digits + suc (length (encode_upper p)) = length-append digits (35 ∷ encode_upper p) in
    let whole : All (λ c. is_separator c ≡ false) text =
    All-append (λ c. is_separator c ≡ false) digits (35 ∷ encode_upper p) (whole_digits (to_be_bytes w32 n) (IsBytes-number n))
    (All-cons (λ c. is_separator c ≡ false) 35 (encode_upper p) refl (whole_digits p bytes)) in (
      text,
      record {
        front = [];
        back = [];
        row = sym (append-nil text);
        some = omega (arith, len);
        whole = whole;
        parted = λ front. absurd (omega (arith, front));
        blank = λ k d below. absurd (omega arith);
      },
      record {
        digits = digits;
        rest = encode_upper p;
        parts = refl;
        identifier = identifier_in-canon n h;
        room = omega (arith, length-encode_with upper_digits p);
        bytes = decode_of-encode_upper p bytes;
      },
    )

-- a line spells one frame
pub one_spelled : (line : List ℕ) (f g : Frame) → Spells line f → Spells line g → f ≡ g
one_spelled line f g x y =
    let same = one_frame line (bits f.ident) (bits g.ident) f.payload.items g.payload.items x y in
    same_frame f g same.0 same.1

-- a line that spells a frame has no fault
pub not_both : (line : List ℕ) (f : Frame) (e : LineError) → Spells line f → HasLineFault line e → ⊥
not_both line f e x h = spelled_not_refused line (bits f.ident) f.payload.items e x h

-- what a line is read as is the frame that it spells
pub only_reading : (line : List ℕ) (r : Result Frame LineError) → IfOk r (λ f. Spells line f) → IfErr r (λ e. HasLineFault line e)
    → (f : Frame) → Spells line f → r ≡ Ok f
only_reading line (Ok g) ok err f x = ap Ok (one_spelled line g f ok x)
only_reading line (Err e) ok err f x = absurd (not_both line f e x err)
