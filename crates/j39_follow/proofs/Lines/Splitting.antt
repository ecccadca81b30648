-- That there is one way to take a line apart, and where its words end.
use Rattle.std.proofs.Common.{◌≡◌, ℕ, ◌+◌, ◌-◌, ◌*◌, ◌<◌, ◌≤◌, true, false, List, [], ◌∷◌, ◌++◌, length, take, drop, slice_index, slice_range, get_or}
use Rattle.std.proofs.Common.{inl, inr, refl, sym, ap, subst, ◌∙◌, arith}
use Rattle.std.proofs.lemmas.Bool.{both_ways, cases_order}
use Rattle.std.specs.List.{AllWithin}
use Rattle.std.proofs.Math.Seq.{get_or-append_seam}
use Rattle.std.proofs.lemmas.List.{drop_more, get_or_default, get_or-take, length-append, length-take-le, take_at}
use Rattle.hex.proofs.HexLemmas.{decode_of-ok}
use Rattle.j39_id.specs.FrameLine.{LineSpells, SplitsLast, is_separator}
use Rattle.j39_id.proofs.LastWord.{IsLastWordAt, places_of, splits_at}
use Rattle.j39_id.proofs.LineLaws.{identifier_digits, same_last_word}
use Rattle.j39_follow.specs.LogLines.{IsDirection}
use Rattle.j39_follow.specs.inside.Splitting.{IsDirectionLetter}

-- ---- one last word

end_not_later : (line : List ℕ) (a b c d : ℕ) → IsLastWordAt line a b → IsLastWordAt line c d → b < d → ⊥
end_not_later line a b c d x y h =
    both_ways (is_separator (get_or line (d - 1) 0))
    (y.whole (d - 1) 0 (omega (arith, y.some)) (omega arith))
    (x.last (d - 1) 0 (omega arith) (omega (arith, y.within)))

same_ends : (line : List ℕ) (a b c d : ℕ) → IsLastWordAt line a b → IsLastWordAt line c d → b ≡ d
same_ends line a b c d x y = elim (cases_order b d) [
  | inl ends ↦ ends
  | inr (inl less) ↦ absurd (end_not_later line a b c d x y less)
  | inr (inr more) ↦ absurd (end_not_later line c d a b y x more)
]

pub front_is : (line front word : List ℕ) (s : SplitsLast line front word) → front ≡ take (length front) line
front_is line front word s =
    let w = s.0 in
    sym (ap (take (length front)) (w.row ∙ ap (λ (f : List ℕ). f ++ (word ++ w.back)) s.1) ∙ take_at front (word ++ w.back) (length front) refl)

pub stands_at : (line front word : List ℕ) → SplitsLast line front word → IsLastWordAt line (length front) (length front + length word)
stands_at line front word s =
    subst (λ (f : List ℕ). IsLastWordAt line (length f) (length f + length word)) s.1 (places_of line word s.0)

pub one_split : (line f w g v : List ℕ) → SplitsLast line f w → SplitsLast line g v → (f ≡ g) × (w ≡ v)
one_split line f w g v x y =
    let ends : length f + length w ≡ length g + length v =
    same_ends line (length f) (length f + length w) (length g) (length g + length v) (stands_at line f w x) (stands_at line g v y) in
    let word : w ≡ v = same_last_word line w v x.0 y.0 in
    let long : length w ≡ length v = ap length word in
    let starts : length f ≡ length g = omega (arith, ends, long) in
    (front_is line f w x ∙ ap (λ (n : ℕ). take n line) starts ∙ sym (front_is line g v y), word)

-- ---- where the words of a line end

-- the last word ends where separators alone follow and a letter stands before
pub ends_at : (line front word : List ℕ) (stop : ℕ) → SplitsLast line front word → stop ≤ length line
    → AllWithin (λ c. is_separator c ≡ true) line stop (length line)
    → (0 < stop → is_separator (slice_index line (stop - 1)) ≡ false) → length front + length word ≡ stop
ends_at line front word stop s within blank ends =
    let x = stands_at line front word s in
    let some = x.some in
    let range = x.within in
    let end : ℕ = length front + length word in
    elim (cases_order end stop) [
      | inl same ↦ same
      | inr (inl less) ↦
          absurd (both_ways (is_separator (get_or line (stop - 1) 0)) (ends (omega (arith, less)))
          (x.last (stop - 1) 0 (omega (arith, less)) (omega (arith, less, within))))
      | inr (inr more) ↦
          absurd (both_ways (is_separator (get_or line (end - 1) 0)) (x.whole (end - 1) 0 (omega (arith, some)) (omega (arith, some)))
          (blank (end - 1) 0 (omega (arith, more)) (omega (arith, more, range))))
    ]

-- the letter of a word that has one alone
one_letter : (line front word : List ℕ) (c : ℕ) → SplitsLast line front word → word ≡ c ∷ [] → slice_index line (length front) ≡ c
one_letter line front word c s is =
    let w = s.0 in
    ap (λ (xs : List ℕ). slice_index xs (length front)) (w.row ∙ ap (λ (f : List ℕ). f ++ (word ++ w.back)) s.1
    ∙ ap (λ (xs : List ℕ). front ++ (xs ++ w.back)) is) ∙ get_or-append_seam front c w.back 0

pub letter_of : (line front word : List ℕ) → SplitsLast line front word → IsDirection word
    → (length word ≡ 1) × IsDirectionLetter (slice_index line (length front))
letter_of line front word s (inl is) = (ap length is, inl (one_letter line front word 82 s is))
letter_of line front word s (inr is) = (ap length is, inr (one_letter line front word 84 s is))

-- the frame's word has eight digits, a hash and two digits a byte
pub frame_word : (line : List ℕ) (number : ℕ) (payload : List ℕ) → (x : LineSpells line number payload)
    → length x.0 ≡ 9 + 2 * length payload
frame_word line number payload x =
    let w = x.2 in
    let eight = (identifier_digits w.digits number w.identifier).0 in
    let twice = (decode_of-ok w.rest payload w.bytes).2 in
    let all : length (w.digits ++ 35 ∷ w.rest) ≡ length w.digits + (1 + length w.rest) = length-append w.digits (35 ∷ w.rest) ∙ omega arith in
    ap length w.parts ∙ all ∙ omega (arith, eight, twice)

-- the letter that ends the words of a line is a word of its own
pub alone : (line : List ℕ) (stop : ℕ) → 0 < stop → stop ≤ length line → AllWithin (λ c. is_separator c ≡ true) line stop (length line)
    → is_separator (slice_index line (stop - 1)) ≡ false
    → (0 < length (take (stop - 1) line) → is_separator (slice_index (take (stop - 1) line) (length (take (stop - 1) line) - 1)) ≡ true)
    → SplitsLast line (take (stop - 1) line) (slice_range line (stop - 1) stop)
alone line stop some within blank whole parted =
    let size : length (take (stop - 1) line) ≡ stop - 1 = length-take-le (stop - 1) line (omega arith) in
    splits_at line (stop - 1) stop (record {
      some = omega arith;
      within = within;
      whole = λ k d low high.
          let here : k ≡ stop - 1 = omega (arith, low, high) in
          rw here (ap is_separator (get_or_default line (stop - 1) d 0 (omega arith)) ∙ whole);
      parted = λ front.
          subst (λ (b : ℕ). is_separator b ≡ true) (get_or-take (stop - 1) line (stop - 1 - 1) 0 (omega (arith, front)))
          (subst (λ (n : ℕ). is_separator (slice_index (take (stop - 1) line) (n - 1)) ≡ true) size (parted (omega (arith, front, size))));
      last = blank;
    })

direction_of : (c : ℕ) (word : List ℕ) → IsDirectionLetter c → word ≡ c ∷ [] → IsDirection word
direction_of c word (inl is) e = inl (e ∙ ap (λ (n : ℕ). n ∷ []) is)
direction_of c word (inr is) e = inr (e ∙ ap (λ (n : ℕ). n ∷ []) is)

-- it reports the direction, if its letter does
pub direction_letter : (line : List ℕ) (stop : ℕ) → 0 < stop → stop ≤ length line → IsDirectionLetter (slice_index line (stop - 1))
    → IsDirection (slice_range line (stop - 1) stop)
direction_letter line stop some within states =
    let one : stop - (stop - 1) ≡ 1 = omega arith in
    let word : slice_range line (stop - 1) stop ≡ slice_index line (stop - 1) ∷ [] =
    ap (λ (n : ℕ). take n (drop (stop - 1) line)) one
    ∙ ap (take 1) (drop_more line (stop - 1) 0 (omega arith)) in
    direction_of (slice_index line (stop - 1)) (slice_range line (stop - 1) stop) states word

-- a direction's word ends where the words of its line do, is parted, and its letter reports it
pub record IsDirectionAt (line : List ℕ) (stop : ℕ) : Type 0 where
  pub some : 0 < stop
  pub letter : IsDirectionLetter (slice_index line (stop - 1))
  pub parted : 0 < length (take (stop - 1) line)
      → is_separator (slice_index (take (stop - 1) line) (length (take (stop - 1) line) - 1)) ≡ true

pub direction_at : (line front word : List ℕ) (stop : ℕ) → SplitsLast line front word → IsDirection word → stop ≤ length line
    → AllWithin (λ c. is_separator c ≡ true) line stop (length line)
    → (0 < stop → is_separator (slice_index line (stop - 1)) ≡ false) → IsDirectionAt line stop
direction_at line front word stop s is within blank ends =
    let letter = letter_of line front word s is in
    let one = letter.0 in
    let whole = ends_at line front word stop s within blank ends in
    let size : length (take (stop - 1) line) ≡ stop - 1 = length-take-le (stop - 1) line (omega arith) in
    let here : length front ≡ stop - 1 = omega (arith, one, whole) in
    let x = stands_at line front word s in
    record {
      some = omega (arith, one, whole);
      letter = subst (λ (n : ℕ). IsDirectionLetter (slice_index line n)) here letter.1;
      parted = λ front'.
          subst (λ (n : ℕ). is_separator (slice_index (take (stop - 1) line) (n - 1)) ≡ true) (sym size)
          (subst (λ (b : ℕ). is_separator b ≡ true) (sym (get_or-take (stop - 1) line (stop - 1 - 1) 0 (omega (arith, front', size))))
          (subst (λ (n : ℕ). is_separator (slice_index line (n - 1)) ≡ true) here (x.parted (omega (arith, here, front', size)))));
    }
