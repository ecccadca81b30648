-- What a time has between its parentheses.
use Rattle.std.proofs.Common.{◌≡◌, ℕ, suc, ◌+◌, ◌-◌, ◌<◌, ◌≤◌, ◌==◌, ◌||◌, true, false, inl, inr, eqb-true, slice_index, List, [], ◌∷◌, ◌++◌, length, take}
use Rattle.std.proofs.Common.{drop, get_or, slice_range, refl, sym, ap, subst, ◌∙◌, arith}
use Rattle.std.specs.List.{All, AllWithin}
use Rattle.std.proofs.lemmas.Bool.{false_from_ne_true, or_cases}
use Rattle.std.proofs.lemmas.List.Elements.{All-append, All-cons, All-nil, All-weaker}
use Rattle.std.proofs.lemmas.List.{drop_all, get_or-append_right, get_or-drop, get_or-take, length-append, length-drop, length-take-le, take-append-drop}
use Rattle.std.proofs.lemmas.List.{take_at}
use Rattle.std.proofs.lemmas.List.{drop-drop, drop_more}
use Rattle.j39_id.specs.FrameLine.{is_separator}
use Rattle.j39_follow.specs.LogLines.{BeginsWithTime, IsOfTime, IsTime}
use Rattle.j39_follow.specs.inside.Splitting.{IsEnclosed}
use Rattle.j39_follow.proofs.Lines.FirstWords.{first_word_at}

abbrev pub middle : List ℕ → List ℕ
middle word = slice_range word 1 (length word - 1)

two_more : (digits : List ℕ) → length (40 ∷ (digits ++ 41 ∷ [])) ≡ length digits + 2
two_more digits = let len = length-append digits (41 ∷ []) in omega (arith, len)

-- the last of them is the closing one
closing : (digits : List ℕ) (i : ℕ) → i ≡ length digits → get_or (digits ++ 41 ∷ []) i 0 ≡ 41
closing digits i at =
    get_or-append_right digits (41 ∷ []) (length digits) i 0 refl (omega (arith, at))
    ∙ ap (λ (n : ℕ). get_or (41 ∷ []) n 0) (let none : i - length digits ≡ 0 = omega (arith, at) in none)

enclosed : (digits : List ℕ) → 1 ≤ length digits → length digits ≤ 30 → IsEnclosed (40 ∷ (digits ++ 41 ∷ []))
enclosed digits some room =
    let len = two_more digits in
    let at : length (40 ∷ (digits ++ 41 ∷ [])) - 1 ≡ suc (length digits) = omega (arith, len) in
    record {
      some = omega (arith, len, some);
      room = omega (arith, len, room);
      opens = refl;
      closes = ap (λ (i : ℕ). get_or (40 ∷ (digits ++ 41 ∷ [])) i 0) at ∙ closing digits (length digits) refl;
    }

pub enclosed_of : (word : List ℕ) → IsTime word → IsEnclosed word
enclosed_of word t = subst IsEnclosed (sym t.row) (enclosed t.digits t.some t.room)

-- the digits of a time are what is between its parentheses
pub middle_of : (word : List ℕ) (t : IsTime word) → middle word ≡ t.digits
middle_of word t =
    let d : List ℕ = t.digits in
    let len = two_more d in
    let inner : length (40 ∷ (d ++ 41 ∷ [])) - 1 - 1 ≡ length d = omega (arith, len) in
    ap middle t.row ∙ ap (λ (n : ℕ). take n (d ++ 41 ∷ [])) inner ∙ take_at d (41 ∷ []) (length d) refl

-- a word is its first byte, its middle and its last byte
whole : (word : List ℕ) → IsEnclosed word → word ≡ 40 ∷ (middle word ++ 41 ∷ [])
whole word e =
    let some = e.some in
    let n : ℕ = length word in
    let first : word ≡ get_or word 0 0 ∷ drop (0 + 1) word = drop_more word 0 0 (omega (arith, some)) in
    let last : drop (n - 1) word ≡ get_or word (n - 1) 0 ∷ drop (n - 1 + 1) word = drop_more word (n - 1) 0 (omega (arith, some)) in
    let none : drop (n - 1 + 1) word ≡ [] = drop_all (n - 1 + 1) word (omega (arith, some)) in
    let cut : drop (n - 1 - 1) (drop 1 word) ≡ drop (n - 1) word =
    drop-drop (n - 1 - 1) 1 word ∙ ap (λ (k : ℕ). drop k word) (let s : 1 + (n - 1 - 1) ≡ n - 1 = omega (arith, some) in s) in
    let row : middle word ++ drop (n - 1 - 1) (drop 1 word) ≡ drop 1 word = take-append-drop (n - 1 - 1) (drop 1 word) in
    let end : drop (n - 1) word ≡ 41 ∷ [] =
    last ∙ ap (λ (c : ℕ). c ∷ drop (n - 1 + 1) word) e.closes ∙ ap (λ (xs : List ℕ). 41 ∷ xs) none in
    first ∙ ap (λ (c : ℕ). c ∷ drop 1 word) e.opens
    ∙ ap (λ (xs : List ℕ). 40 ∷ xs) (sym row ∙ ap (λ (xs : List ℕ). middle word ++ xs) (cut ∙ end))

pub time_of : (word : List ℕ) → IsEnclosed word → All IsOfTime (middle word) → IsTime word
time_of word e sort =
    let some = e.some in
    let room = e.room in
    let n : ℕ = length word in
    let rest : length (drop 1 word) ≡ n - 1 = length-drop 1 word in
    let size : length (middle word) ≡ n - 1 - 1 = length-take-le (n - 1 - 1) (drop 1 word) (omega (arith, rest)) in
    record {
      digits = middle word;
      row = whole word e;
      some = omega (arith, size, some);
      room = omega (arith, size, room);
      sort = sort;
    }

-- ---- a time in front of a line

-- no letter of a time parts words
letter_whole : (c : ℕ) → IsOfTime c → is_separator c ≡ false
letter_whole c (inr point) = rw point refl
letter_whole c (inl digit) =
    let low = digit.0 in
    false_from_ne_true (is_separator c) (λ yes. elim (or_cases (c == 32) (c == 9 || c == 13) yes) [
      | inl e ↦ (let is = eqb-true c 32 e in absurd (omega (arith, low, is)))
      | inr o ↦ elim (or_cases (c == 9) (c == 13) o) [
        | inl e ↦ (let is = eqb-true c 9 e in absurd (omega (arith, low, is)))
        | inr e ↦ (let is = eqb-true c 13 e in absurd (omega (arith, low, is)))
      ]
    ])

time_whole : (word : List ℕ) → IsTime word → All (λ c. is_separator c ≡ false) word
time_whole word t =
    subst (All (λ c. is_separator c ≡ false)) (sym t.row)
    (All-cons (λ c. is_separator c ≡ false) 40 (t.digits ++ 41 ∷ []) refl
    (All-append (λ c. is_separator c ≡ false) t.digits (41 ∷ []) (All-weaker IsOfTime (λ c. is_separator c ≡ false) letter_whole t.digits t.sort)
    (All-cons (λ c. is_separator c ≡ false) 41 [] refl (All-nil (λ c. is_separator c ≡ false)))))

middle_time : (line : List ℕ) (many : ℕ) → many + 2 ≤ length line → AllWithin IsOfTime (drop 1 line) 0 many
    → All IsOfTime (middle (take (many + 2) line))
middle_time line many within all k d below =
    let word : List ℕ = take (many + 2) line in
    let size : length word ≡ many + 2 = length-take-le (many + 2) line within in
    let rest : length (drop 1 word) ≡ length word - 1 = length-drop 1 word in
    let count : length (middle word) ≡ length word - 1 - 1 = length-take-le (length word - 1 - 1) (drop 1 word) (omega (arith, rest, size)) in
    let inside : k < many = omega (arith, below, count, size) in
    rw (
      get_or-take (length word - 1 - 1) (drop 1 word) k d (omega (arith, inside, size)),
      get_or-drop 1 word k d,
      get_or-take (many + 2) line (1 + k) d (omega (arith, inside)),
    )
    (subst IsOfTime (get_or-drop 1 line k d) (all k d (omega arith) inside))

pub begins_with_time : (line : List ℕ) (many : ℕ) → many + 2 ≤ length line → AllWithin IsOfTime (drop 1 line) 0 many
    → IsEnclosed (take (many + 2) line) → (many + 2 < length line → is_separator (slice_index line (many + 2)) ≡ true)
    → BeginsWithTime line (take (many + 2) line)
begins_with_time line many within all e ended =
    let word : List ℕ = take (many + 2) line in
    let t = time_of word e (middle_time line many within all) in
    let letters = time_whole word t in
    let size : length word ≡ many + 2 = length-take-le (many + 2) line within in
    let whole_letters : AllWithin (λ c. is_separator c ≡ false) line 0 (many + 2) =
    λ k d low high. subst (λ (c : ℕ). is_separator c ≡ false) (get_or-take (many + 2) line k d high) (letters k d (omega (arith, high, size))) in (
      first_word_at line 0 (many + 2) (omega (arith, within)) (λ k d low high. absurd (omega (arith, high))) (whole_letters 0 0 (omega arith) (omega arith))
          within whole_letters ended,
      t,
    )
