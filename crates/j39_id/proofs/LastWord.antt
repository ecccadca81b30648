-- Where the last word of a line stands.
use Rattle.std.proofs.Common.{◌≡◌, ℕ, ◌+◌, ◌-◌, ◌<◌, ◌≤◌, true, false, List, ◌++◌, length, take, drop, slice_index, slice_range, refl, sym, ap, subst, ◌∙◌}
use Rattle.std.proofs.Common.{arith}
use Rattle.std.specs.List.{AllWithin}
use Rattle.std.proofs.lemmas.List.{length-append, length-drop, get_or_append_left, get_or-append_right, get_or-take, get_or-drop, take-append-drop, drop-drop}
use Rattle.std.proofs.lemmas.List.{length-take-le, take_at, drop_at}
use Rattle.j39_id.specs.FrameLine.{is_separator, IsLastWord, SplitsLast}

-- the last word of the line stands from start up to stop
pub record IsLastWordAt (line : List ℕ) (start stop : ℕ) : Type 0 where
  pub some : start < stop
  pub within : stop ≤ length line
  pub whole : AllWithin (λ c. is_separator c ≡ false) line start stop
  pub parted : 0 < start → is_separator (slice_index line (start - 1)) ≡ true
  pub last : AllWithin (λ c. is_separator c ≡ true) line stop (length line)

-- the word that ends the first part of a line is the line's last, where separators alone stand behind that part
pub last_word_of_front : (line : List ℕ) (start stop : ℕ) → stop ≤ length line → start < length (take stop line)
    → AllWithin (λ c. is_separator c ≡ false) (take stop line) start (length (take stop line))
    → (0 < start → is_separator (slice_index (take stop line) (start - 1)) ≡ true)
    → AllWithin (λ c. is_separator c ≡ true) line stop (length line) → IsLastWordAt line start stop
last_word_of_front line start stop within less whole parted last =
    let count : length (take stop line) ≡ stop = length-take-le stop line within in
    record {
      some = omega (arith, less, count);
      within = within;
      whole = λ k d low high. rw (get_or-take stop line k d high) at (whole k d low (omega (arith, high, count)));
      parted = λ front. rw (get_or-take stop line (start - 1) 0 (omega (arith, less, count))) at (parted front);
      last = last;
    }

-- a line, cut at two places
cut_twice : (line : List ℕ) (start stop : ℕ) → start ≤ stop → take start line ++ (slice_range line start stop ++ drop stop line) ≡ line
cut_twice line start stop h =
    let same : drop (stop - start) (drop start line) ≡ drop stop line =
    drop-drop (stop - start) start line ∙ ap (λ (n : ℕ). drop n line) (omega arith) in
    ap (λ (xs : List ℕ). take start line ++ (slice_range line start stop ++ xs)) (sym same)
    ∙ ap (λ (xs : List ℕ). take start line ++ xs) (take-append-drop (stop - start) (drop start line))
    ∙ take-append-drop start line

-- the word between these places is the line's last, and what stands before its place is its front
pub splits_at : (line : List ℕ) (start stop : ℕ) → IsLastWordAt line start stop → SplitsLast line (take start line) (slice_range line start stop)
splits_at line start stop p =
    let some = p.some in
    let within = p.within in
    let before : length (take start line) ≡ start = length-take-le start line (omega arith) in
    let rest : length (drop start line) ≡ length line - start = length-drop start line in
    let size : length (slice_range line start stop) ≡ stop - start = length-take-le (stop - start) (drop start line) (omega (arith, rest)) in
    let behind : length (drop stop line) ≡ length line - stop = length-drop stop line in (
      record {
        front = take start line;
        back = drop stop line;
        row = sym (cut_twice line start stop (omega arith));
        some = omega (arith, size);
        whole = λ k d below.
            rw (get_or-take (stop - start) (drop start line) k d (omega (arith, size)), get_or-drop start line k d)
            (p.whole (start + k) d (omega arith) (omega (arith, size)));
        parted = λ front.
            rw (before, get_or-take start line (start - 1) 0 (omega (arith, before))) (p.parted (omega (arith, before)));
        blank = λ k d below. rw (get_or-drop stop line k d) (p.last (stop + k) d (omega arith) (omega (arith, behind)));
      },
      refl,
    )

-- the places of the parts of a row
pub places_of : (line word : List ℕ) (w : IsLastWord line word) → IsLastWordAt line (length w.front) (length w.front + length word)
places_of line word w =
    let x : List ℕ = w.front in
    let y : List ℕ = w.back in
    let len : length (x ++ (word ++ y)) ≡ length x + length (word ++ y) = length-append x (word ++ y) in
    let len' : length (word ++ y) ≡ length word + length y = length-append word y in
    let whole : IsLastWordAt (x ++ (word ++ y)) (length x) (length x + length word) = record {
      some = let some = w.some in omega arith;
      within = omega (arith, len, len');
      whole = λ k d low high.
          rw (get_or-append_right x (word ++ y) (length x) k d refl low, get_or_append_left word y d (k - length x) (omega arith))
          (w.whole (k - length x) d (omega arith));
      parted = λ front. rw (get_or_append_left x (word ++ y) 0 (length x - 1) (omega arith)) (w.parted front);
      last = λ k d low high.
          rw (get_or-append_right x (word ++ y) (length x) k d refl (omega arith), get_or-append_right word y (length word) (k - length x) d refl (omega arith))
          (w.blank (k - length x - length word) d (omega (arith, len, len')));
    } in
    subst (λ (xs : List ℕ). IsLastWordAt xs (length x) (length x + length word)) (sym w.row) whole

-- the word is what stands between its places
pub word_between : (line word : List ℕ) (w : IsLastWord line word) → word ≡ slice_range line (length w.front) (length w.front + length word)
word_between line word w =
    let x : List ℕ = w.front in
    let size : length x + length word - length x ≡ length word = omega arith in
    sym (
    ap (λ (n : ℕ). take n (drop (length x) line)) size
    ∙ ap (λ (xs : List ℕ). take (length word) (drop (length x) xs)) w.row
    ∙ ap (take (length word)) (drop_at x (word ++ w.back) (length x) refl)
    ∙ take_at word w.back (length word) refl
    )
