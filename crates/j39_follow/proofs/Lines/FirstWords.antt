-- The first word of a line.
use Rattle.std.proofs.Common.{◌≡◌, ℕ, ◌+◌, ◌-◌, ◌<◌, ◌≤◌, true, false, List, ◌++◌, length, take, drop, slice_index, get_or}
use Rattle.std.proofs.Common.{inl, inr, refl, sym, ap, subst, ◌∙◌, arith}
use Rattle.std.specs.List.{AllPass, AllWithin}
use Rattle.std.proofs.lemmas.Bool.{both_ways, cases_order}
use Rattle.std.proofs.lemmas.List.{drop_at, get_or-append_right, get_or-drop, get_or-take, get_or_append_left, length-append, length-drop, length-take-le}
use Rattle.std.proofs.lemmas.List.{take-append-drop, take_at}
use Rattle.j39_id.specs.FrameLine.{is_separator}
use Rattle.j39_follow.specs.LogLines.{IsFirstWord}

-- the first word of the line stands from start up to stop
pub record IsFirstWordAt (line : List ℕ) (start stop : ℕ) : Type 0 where
  pub some : start < stop
  pub within : stop ≤ length line
  pub blank : AllWithin (λ c. is_separator c ≡ true) line 0 start
  pub whole : AllWithin (λ c. is_separator c ≡ false) line start stop
  pub parted : stop < length line → is_separator (slice_index line stop) ≡ true

-- the word that a line has behind its separators
pub first_word_at : (line : List ℕ) (start many : ℕ) → start < length line → AllWithin (λ c. is_separator c ≡ true) line 0 start
    → is_separator (slice_index line start) ≡ false → many ≤ length (drop start line)
    → AllWithin (λ c. is_separator c ≡ false) (drop start line) 0 many
    → (many < length (drop start line) → is_separator (slice_index (drop start line) many) ≡ true)
    → IsFirstWord line (take many (drop start line))
first_word_at line start many less blank begins within whole parted =
    let rest : List ℕ = drop start line in
    let size : length rest ≡ length line - start = length-drop start line in
    let before : length (take start line) ≡ start = length-take-le start line (omega arith) in
    let count : length (take many rest) ≡ many = length-take-le many rest within in
    let behind : length (drop many rest) ≡ length rest - many = length-drop many rest in
    let first : slice_index rest 0 ≡ slice_index line start =
    get_or-drop start line 0 0 ∙ ap (λ (i : ℕ). get_or line i 0) (let same : start + 0 ≡ start = omega arith in same) in
    record {
      front = take start line;
      back = drop many rest;
      row = sym (ap (λ (xs : List ℕ). take start line ++ xs) (take-append-drop many rest) ∙ take-append-drop start line);
      some = elim (cases_order 0 many) [
        | inl none ↦
            absurd (both_ways (is_separator (slice_index rest 0)) (ap is_separator first ∙ begins)
            (subst (λ (n : ℕ). n < length rest → is_separator (slice_index rest n) ≡ true) (sym none) parted (omega (arith, size))))
        | inr (inl more) ↦ omega (arith, count)
        | inr (inr below) ↦ absurd (omega arith)
      ];
      whole = λ k d below.
          let inside : k < many = omega (arith, below, count) in
          rw (get_or-take many rest k d inside) (whole k d (omega arith) inside);
      blank = λ k d below.
          let inside : k < start = omega (arith, below, before) in
          rw (get_or-take start line k d inside) (blank k d (omega arith) inside);
      parted = λ some.
          let at : slice_index (drop many rest) 0 ≡ slice_index rest many =
          get_or-drop many rest 0 0 ∙ ap (λ (i : ℕ). get_or rest i 0) (let same : many + 0 ≡ many = omega arith in same) in
          ap is_separator at ∙ parted (omega (arith, some, behind));
    }

-- ---- one first word

places_of : (line word : List ℕ) (w : IsFirstWord line word) → IsFirstWordAt line (length w.front) (length w.front + length word)
places_of line word w =
    let x : List ℕ = w.front in
    let y : List ℕ = w.back in
    let len : length (x ++ (word ++ y)) ≡ length x + length (word ++ y) = length-append x (word ++ y) in
    let len' : length (word ++ y) ≡ length word + length y = length-append word y in
    let whole : IsFirstWordAt (x ++ (word ++ y)) (length x) (length x + length word) = record {
      some = let some = w.some in omega arith;
      within = omega (arith, len, len');
      blank = λ k d low high. rw (get_or_append_left x (word ++ y) d k high) (w.blank k d high);
      whole = λ k d low high.
          rw (get_or-append_right x (word ++ y) (length x) k d refl low, get_or_append_left word y d (k - length x) (omega arith))
          (w.whole (k - length x) d (omega arith));
      parted = λ more.
          let at : slice_index (x ++ (word ++ y)) (length x + length word) ≡ slice_index y 0 =
          get_or-append_right x (word ++ y) (length x) (length x + length word) 0 refl (omega arith)
          ∙ ap (λ (i : ℕ). get_or (word ++ y) i 0) (let there : length x + length word - length x ≡ length word = omega arith in there)
          ∙ get_or-append_right word y (length word) (length word) 0 refl (omega arith)
          ∙ ap (λ (i : ℕ). get_or y i 0) (let here : length word - length word ≡ 0 = omega arith in here) in
          ap is_separator at ∙ w.parted (omega (arith, more, len, len'));
    } in
    subst (λ (xs : List ℕ). IsFirstWordAt xs (length x) (length x + length word)) (sym w.row) whole

word_between : (line word : List ℕ) (w : IsFirstWord line word) → word ≡ take (length word) (drop (length w.front) line)
word_between line word w =
    sym (ap (λ (xs : List ℕ). take (length word) (drop (length w.front) xs)) w.row
    ∙ ap (take (length word)) (drop_at w.front (word ++ w.back) (length w.front) refl) ∙ take_at word w.back (length word) refl)

start_not_later : (line : List ℕ) (a b c d : ℕ) → IsFirstWordAt line a b → IsFirstWordAt line c d → a < c → ⊥
start_not_later line a b c d x y less =
    both_ways (is_separator (get_or line a 0)) (x.whole a 0 (omega arith) (let some = x.some in omega arith)) (y.blank a 0 (omega arith) less)

end_not_later : (line : List ℕ) (a b d : ℕ) → IsFirstWordAt line a b → IsFirstWordAt line a d → b < d → ⊥
end_not_later line a b d x y less =
    let some = x.some in
    let within = y.within in
    both_ways (is_separator (get_or line b 0)) (y.whole b 0 (omega arith) less) (x.parted (omega arith))

pub one_first_word : (line v w : List ℕ) → IsFirstWord line v → IsFirstWord line w → v ≡ w
one_first_word line v w x y =
    let a : ℕ = length x.front in
    let c : ℕ = length y.front in
    let first = places_of line v x in
    let second = places_of line w y in
    let starts : a ≡ c = elim (cases_order a c) [
      | inl same ↦ same
      | inr (inl less) ↦ absurd (start_not_later line a (a + length v) c (c + length w) first second less)
      | inr (inr more) ↦ absurd (start_not_later line c (c + length w) a (a + length v) second first more)
    ] in
    let moved : IsFirstWordAt line a (c + length w) = subst (λ (n : ℕ). IsFirstWordAt line n (c + length w)) (sym starts) second in
    let ends : a + length v ≡ c + length w = elim (cases_order (a + length v) (c + length w)) [
      | inl same ↦ same
      | inr (inl less) ↦ absurd (end_not_later line a (a + length v) (c + length w) first moved less)
      | inr (inr more) ↦ absurd (end_not_later line a (c + length w) (a + length v) moved first more)
    ] in
    let long : length v ≡ length w = omega (arith, starts, ends) in
    word_between line v x ∙ ap (λ (n : ℕ). take n (drop a line)) long ∙ ap (λ (n : ℕ). take (length w) (drop n line)) starts
    ∙ sym (word_between line w y)

-- a line of separators has no first word
pub not_all_blank : (line w : List ℕ) → IsFirstWord line w → AllPass is_separator line → ⊥
not_all_blank line w x blank =
    let p = places_of line w x in
    let some = p.some in
    let within = p.within in
    both_ways (is_separator (get_or line (length x.front) 0)) (p.whole (length x.front) 0 (omega arith) some)
    (blank (length x.front) 0 (omega arith))
