-- Words that are written with spaces between them are the words of their line.
use Rattle.std.proofs.Common.{◌≡◌, ℕ, ◌<◌, true, false, ◌&&◌, ◌==◌, ◌||◌, nat_lt, List, [], ◌∷◌, ◌++◌, length, refl, ap, ◌∙◌, arith}
use Rattle.std.proofs.lemmas.Bool.{and_parts, lt-ltb, ltb-true, ne_eqb, or_from}
use Rattle.std.proofs.lemmas.List.Elements.{All-append, All-cons, All-weaker}
use Rattle.std.proofs.lemmas.List.Splits.{slice_split_at, slice_split_none}
use Rattle.std.proofs.lemmas.List.Sums.{AllPass-from_list_all}
use Rattle.std.specs.List.{All, filter, list_all, slice_split}
use Rattle.j39_id.specs.FrameLine.{is_separator}
use Rattle.j39_id.specs.Lines.{is_line_feed}
use Rattle.j39_schedule.specs.Schedule.{is_word, words_of}

-- ---- characters

parts_none : (c : ℕ) → 32 < c → is_separator c ≡ false
parts_none c above =
    or_from (c == 32) (c == 9 || c == 13) (ne_eqb c 32 (λ e. omega arith))
    (or_from (c == 9) (c == 13) (ne_eqb c 9 (λ e. omega arith)) (ne_eqb c 13 (λ e. omega arith)))

ends_none : (c : ℕ) → 31 < c → is_line_feed c ≡ false
ends_none c above = ne_eqb c 10 (λ e. omega arith)

-- no line feed stands in a text of these
abbrev pub IsVisible : List ℕ → Type 0
IsVisible text = All (λ c. 31 < c) text

pub one_line : (text : List ℕ) → IsVisible text → slice_split is_line_feed text ≡ text ∷ []
one_line text visible = slice_split_none is_line_feed text (All-weaker (λ c. 31 < c) (λ c. is_line_feed c ≡ false) ends_none text visible)

-- ---- a word

pub record IsWord (text : List ℕ) : Type 0 where
  pub some : 0 < length text
  pub above : All (λ c. 32 < c) text

-- by a test that computes
pub is_spelled : (text : List ℕ) → (nat_lt 0 (length text) && list_all (λ c. nat_lt 32 c) text) ≡ true → IsWord text
is_spelled text passes =
    let parts = and_parts _ _ passes in
    record {
      some = ltb-true 0 (length text) parts.0;
      above = All-weaker (λ c. nat_lt 32 c ≡ true) (λ c. 32 < c) (λ c h. ltb-true 32 c h) text (AllPass-from_list_all (λ c. nat_lt 32 c) text parts.1);
    }

pub visible : (text : List ℕ) → IsWord text → IsVisible text
visible text word = All-weaker (λ c. 32 < c) (λ c. 31 < c) (λ c h. omega arith) text word.above

-- a space between two texts
pub visible_parted : (front back : List ℕ) → IsVisible front → IsVisible back → IsVisible (front ++ 32 ∷ back)
visible_parted front back first second =
    All-append (λ c. 31 < c) front (32 ∷ back) first (All-cons (λ c. 31 < c) 32 back (omega arith) second)

module _ (word : List ℕ) (is : IsWord word) where
  whole : All (λ c. is_separator c ≡ false) word
  whole = All-weaker (λ c. 32 < c) (λ c. is_separator c ≡ false) parts_none word is.above

  pub first_word : (rest : List ℕ) → words_of (word ++ 32 ∷ rest) ≡ word ∷ words_of rest
  unfolding words_of
  first_word rest =
      let full = lt-ltb 0 (length word) is.some in
      ap (filter is_word) (slice_split_at is_separator word 32 rest whole refl) ∙ rw full refl

  pub only_word : words_of word ≡ word ∷ []
  unfolding words_of
  only_word =
      let full = lt-ltb 0 (length word) is.some in
      ap (filter is_word) (slice_split_none is_separator word whole) ∙ rw full refl

-- spaces before a line make no word
pub after_spaces : (line : List ℕ) → words_of (32 ∷ 32 ∷ line) ≡ words_of line
unfolding words_of
after_spaces line = refl
