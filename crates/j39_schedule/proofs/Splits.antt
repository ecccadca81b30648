-- The lines of a text and the words of a line, one after another.
use Rattle.std.proofs.Common.{◌≡◌, ℕ, suc, ◌+◌, ◌-◌, ◌<◌, ◌≤◌, Bool, true, false, cond, not, List, [], ◌∷◌, ◌++◌, length, map, take, drop, refl, sym, ap, ◌∙◌}
use Rattle.std.proofs.Common.{subst, arith, inl, inr, Option, Some, None}
use Rattle.std.proofs.lemmas.Bool.{cases_lt, lt-ltb, le-ltb}
use Rattle.std.proofs.lemmas.List.{drop_all, length-take-le, map-append, take_rest}
use Rattle.std.proofs.lemmas.List.Splits.{slice_split_first}
use Rattle.std.specs.List.{slice_split, onto_first, position, position_or_len, filter}
use Rattle.std.specs.Option.{unwrap_or}
use Rattle.j39_id.specs.FrameLine.{is_separator}
use Rattle.j39_id.specs.Lines.{is_line_feed, line_of, lines, without_empty_end}
use Rattle.j39_schedule.specs.Schedule.{is_word, words_of}

-- ---- positions

module _ (p : ℕ → Bool) (xs : List ℕ) where
  position_at : position_or_len p xs < length xs → position p xs ≡ Some (position_or_len p xs)
  position_at h = let t = lt-ltb (position_or_len p xs) (length xs) h in rw t refl

  position_none : length xs ≤ position_or_len p xs → position p xs ≡ None
  position_none h = let t = le-ltb (position_or_len p xs) (length xs) h in rw t refl

  -- where a position is found, it is inside
  pub found_at : (n : ℕ) → position p xs ≡ Some n → (n ≡ position_or_len p xs) × (n < length xs)
  found_at n is =
      elim (cases_lt (position_or_len p xs) (length xs)) [
        | inl inside ↦
            let e : n ≡ position_or_len p xs = ap (λ (o : Option ℕ). unwrap_or o 0) (sym is ∙ position_at inside) in
            (e, omega arith)
        | inr past ↦ cc (sym is ∙ position_none past)
      ]

  pub missing : position p xs ≡ None → length xs ≤ position_or_len p xs
  missing is =
      elim (cases_lt (position_or_len p xs) (length xs)) [
        | inl inside ↦ cc (sym is ∙ position_at inside)
        | inr past ↦ past
      ]

-- ---- parts

-- there is a first part
first_part : (p : ℕ → Bool) (xs : List ℕ) → (part : List ℕ) × (parts : List (List ℕ)) × (slice_split p xs ≡ part ∷ parts)
first_part p [] = ([], [], refl)
first_part p (x ∷ xs) =
    let (part, parts, is) = first_part p xs in
    elim (p x) as (λ b. (q : List ℕ) × (qs : List (List ℕ)) × (cond b ([] ∷ slice_split p xs) (onto_first x (slice_split p xs)) ≡ q ∷ qs)) [
      | true ↦ ([], slice_split p xs, refl)
      | false ↦ (x ∷ part, parts, ap (onto_first x) is)
    ]

split_at : (p : ℕ → Bool) (xs : List ℕ) (n : ℕ) → position p xs ≡ Some n → slice_split p xs ≡ take n xs ∷ slice_split p (drop (n + 1) xs)
split_at p xs n is =
    let (e, inside) = found_at p xs n is in
    rw e (slice_split_first p xs 0 (omega arith))

split-none : (p : ℕ → Bool) (xs : List ℕ) → length xs ≤ position_or_len p xs → slice_split p xs ≡ xs ∷ []
split-none p [] past = refl
split-none p (x ∷ xs) past =
    elim (p x) as (λ b. suc (length xs) ≤ cond (not b) (1 + position_or_len p xs) 0
    → cond b ([] ∷ slice_split p xs) (onto_first x (slice_split p xs)) ≡ (x ∷ xs) ∷ []) [
      | true ↦ λ h. absurd (omega arith)
      | false ↦ λ h. ap (onto_first x) (split-none p xs (omega arith))
    ] past

split_whole : (p : ℕ → Bool) (xs : List ℕ) → position p xs ≡ None → slice_split p xs ≡ xs ∷ []
split_whole p xs is = split-none p xs (missing p xs is)

-- the parts of a text that is cut at an element are those before it and those behind it
pub split-append : (p : ℕ → Bool) (xs : List ℕ) (y : ℕ) (ys : List ℕ) → p y ≡ true → slice_split p (xs ++ y ∷ ys) ≡ slice_split p xs ++ slice_split p ys
split-append p [] y ys cut = rw cut refl
split-append p (x ∷ xs) y ys cut =
    let (part, parts, is) = first_part p xs in
    let rest = split-append p xs y ys cut in
    elim (p x) as (λ b. cond b ([] ∷ slice_split p (xs ++ y ∷ ys)) (onto_first x (slice_split p (xs ++ y ∷ ys))) ≡ cond b ([] ∷ slice_split p xs)
    (onto_first x (slice_split p xs)) ++ slice_split p ys) [
      | true ↦ ap (λ (l : List (List ℕ)). [] ∷ l) rest
      | false ↦ rw (rest, is) refl
    ]

-- ---- lines

more_parts : (parts : List (List ℕ)) (next : List ℕ) (rest : List (List ℕ))
    → without_empty_end (parts ++ next ∷ rest) ≡ parts ++ without_empty_end (next ∷ rest)
more_parts [] next rest = refl
more_parts (part ∷ []) next rest = refl
more_parts (part ∷ other ∷ parts) next rest = ap (λ (l : List (List ℕ)). part ∷ l) (more_parts (other ∷ parts) next rest)

ended-parts : (parts : List (List ℕ)) (text : List ℕ) → without_empty_end (parts ++ slice_split is_line_feed text) ≡ parts ++ without_empty_end
    (slice_split is_line_feed text)
ended-parts parts text =
    let (part, rest, is) = first_part is_line_feed text in
    rw is (more_parts parts part rest)

-- the lines that have ended come first
pub lines-append : (front more : List ℕ) → lines (front ++ 10 ∷ more) ≡ map line_of (slice_split is_line_feed front) ++ lines more
unfolding lines
lines-append front more =
    ap (map line_of) (ap without_empty_end (split-append is_line_feed front 10 more refl) ∙ ended-parts (slice_split is_line_feed front) more)
    ∙ map-append line_of (slice_split is_line_feed front) _

-- ---- words

abbrev begins_word : ℕ → Bool
begins_word b = not (is_separator b)

-- separators at the front make no word
skipped : (line : List ℕ) → words_of line ≡ words_of (drop (position_or_len begins_word line) line)
unfolding words_of
skipped [] = refl
skipped (b ∷ line) = by (is_separator b) refl (skipped line)
  where
    by : (s : Bool) → is_separator b ≡ s → words_of line ≡ words_of (drop (position_or_len begins_word line) line)
        → filter is_word (slice_split is_separator (b ∷ line)) ≡ filter is_word
        (slice_split is_separator (drop (position_or_len begins_word (b ∷ line)) (b ∷ line)))
    by true e rest =
        let next : position_or_len begins_word (b ∷ line) ≡ suc (position_or_len begins_word line) = rw e (omega arith) in
        rw (next, e) rest
    by false e rest =
        let here : position_or_len begins_word (b ∷ line) ≡ 0 = rw e refl in
        rw here refl

-- at the place where a word begins there is no separator
abbrev Begins : List ℕ → Type 0
Begins line = position_or_len begins_word line < length line → (b : ℕ) × (rest : List ℕ) × (drop (position_or_len begins_word line) line ≡ b ∷ rest)
    × (is_separator b ≡ false)

moved : (line : List ℕ) (b c : ℕ) (more : List ℕ) (m n : ℕ) → m ≡ suc n → drop n line ≡ c ∷ more → drop m (b ∷ line) ≡ c ∷ more
moved line b c more m n next is = rw next is

begun : (line : List ℕ) → Begins line
begun [] inside = absurd (omega arith)
begun (b ∷ line) inside = by (is_separator b) refl (begun line) inside
  where
    by : (s : Bool) → is_separator b ≡ s → Begins line → Begins (b ∷ line)
    by true e rest inside =
        let next : position_or_len begins_word (b ∷ line) ≡ suc (position_or_len begins_word line) = rw e (omega arith) in
        let shorter : position_or_len begins_word line < length line = omega arith in
        let (c, more, is, other) = rest shorter in
        (c, more, moved line b c more _ _ next is, other)
    by false e rest inside =
        let here : position_or_len begins_word (b ∷ line) ≡ 0 = rw e refl in
        (b, line, ap (λ (n : ℕ). drop n (b ∷ line)) here, e)

pub no_words : (line : List ℕ) → position begins_word line ≡ None → words_of line ≡ []
unfolding words_of
no_words line is =
    let past = missing begins_word line is in
    let done = drop_all (position_or_len begins_word line) line past in
    skipped line ∙ rw done refl

word_end : (b : ℕ) (rest : List ℕ) (n : ℕ) → is_separator b ≡ false → position is_separator (b ∷ rest) ≡ Some n → 0 < n
word_end b rest n other is =
    let (e, inside) = found_at is_separator (b ∷ rest) n is in
    let next : position_or_len is_separator (b ∷ rest) ≡ 1 + position_or_len is_separator rest = rw other refl in
    omega arith

module _ (line rest : List ℕ) (start : ℕ) (begins : position begins_word line ≡ Some start) (behind : rest ≡ drop start line) where
  -- what stands behind the separators begins with a word
  word_here : (words_of line ≡ words_of rest) × ((b : ℕ) × (more : List ℕ) × (rest ≡ b ∷ more) × (is_separator b ≡ false))
  word_here =
      let (e, inside) = found_at begins_word line start begins in
      let (b, more, is, other) = begun line (omega arith) in (
        skipped line ∙ ap (λ (n : ℕ). words_of (drop n line)) (sym e) ∙ ap words_of (sym behind),
        (b, more, behind ∙ ap (λ (n : ℕ). drop n line) e ∙ is, other),
      )

  pub word_at : (n : ℕ) → position is_separator rest ≡ Some n
      → (words_of line ≡ take n rest ∷ words_of (take (length rest - (n + 1)) (drop (n + 1) rest))) × (0 < length (take n rest))
  unfolding words_of
  word_at n is =
      let (skip, (b, more, rest_is, other)) = word_here in
      let inside = (found_at is_separator rest n is).1 in
      let some : 0 < n = word_end b more n other (subst (λ (l : List ℕ). position is_separator l ≡ Some n) rest_is is) in
      let count : length (take n rest) ≡ n = length-take-le n rest (omega arith) in
      let full : 0 < length (take n rest) = omega arith in
      let test = lt-ltb 0 (length (take n rest)) full in
      let whole = take_rest rest (n + 1) in
      (skip ∙ ap (filter is_word) (split_at is_separator rest n is) ∙ rw (test, whole) refl, full)

  pub last_word : position is_separator rest ≡ None → (words_of line ≡ rest ∷ words_of []) × (0 < length rest)
  unfolding words_of
  last_word is =
      let (skip, (b, more, rest_is, other)) = word_here in
      let full : 0 < length rest = rw rest_is (omega arith) in
      let test = lt-ltb 0 (length rest) full in
      (skip ∙ ap (filter is_word) (split_whole is_separator rest is) ∙ rw test refl, full)
