-- Where a word stands in a line.
use Rattle.std.proofs.Common.{◌≡◌, ℕ, ◌+◌, ◌-◌, ◌<◌, ◌≤◌, true, List, ◌++◌, length, take, drop, get_or, slice_index, refl, sym, ap, subst, ◌∙◌, arith}
use Rattle.std.proofs.Math.Seq.{drop-append_seam, take-append_seam}
use Rattle.std.proofs.lemmas.List.{get_or-append_right, get_or-drop, get_or-take, get_or_append_left, length-append, length-drop, length-take-le}
use Rattle.std.proofs.lemmas.List.{take-append-drop}
use Rattle.j39_id.specs.FrameLine.{is_separator}
use Rattle.j39_follow.specs.LogLines.{HasWord}
use Rattle.j39_follow.specs.inside.Splitting.{IsWordAt}

pub has_word_at : (line : List ℕ) (place : ℕ) (word : List ℕ) → place ≤ length line → IsWordAt line place word → HasWord line word
has_word_at line place word within at =
    let rest : List ℕ = drop place line in
    let n : ℕ = length word in
    let before : length (take place line) ≡ place = length-take-le place line within in
    record {
      front = take place line;
      back = drop n rest;
      row = sym (take-append-drop place line) ∙ ap (λ (t : List ℕ). take place line ++ t)
          (sym (take-append-drop n rest) ∙ ap (λ (t : List ℕ). t ++ drop n rest) at.there);
      begins = λ some.
          rw (before, get_or-take place line (place - 1) 0 (omega (arith, before, some))) (at.begins (omega (arith, before, some)));
      ends = λ some.
          let size = length-drop n rest in
          rw (get_or-drop n rest 0 0)
          (subst (λ (i : ℕ). is_separator (slice_index rest i) ≡ true) (let z : n ≡ n + 0 = omega arith in z) (at.ends (omega (arith, some, size))));
    }

pub word_place : (line word : List ℕ) (h : HasWord line word) → (length h.front ≤ length line) × IsWordAt line (length h.front) word
word_place line word h =
    let f : List ℕ = h.front in
    let rest : List ℕ = word ++ h.back in
    let all = length-append f rest in
    let here : drop (length f) line ≡ rest = ap (drop (length f)) h.row ∙ drop-append_seam f rest in
    let size = ap (length {A = ℕ}) h.row in
    let more = length-append word h.back in (
      omega (arith, all, size),
      record {
        begins = λ some.
            rw (ap (λ (t : List ℕ). get_or t (length f - 1) 0) h.row ∙ get_or_append_left f rest 0 (length f - 1) (omega (arith, some))) (h.begins some);
        there = ap (take (length word)) here ∙ take-append_seam word h.back;
        ends = λ some.
            let many : length word < length rest = subst (λ (t : List ℕ). length word < length t) here some in
            rw (ap (λ (t : List ℕ). get_or t (length word) 0) here ∙ get_or-append_right word h.back (length word) (length word) 0 refl (omega arith))
            (subst (λ (i : ℕ). is_separator (slice_index h.back i) ≡ true) (let z : 0 ≡ length word - length word = omega arith in z)
            (h.ends (omega (arith, many, more))));
      },
    )

-- what stands before a place parts words as the line does
pub parted_front : (line : List ℕ) (place : ℕ) → place ≤ length line → (0 < place → is_separator (slice_index line (place - 1)) ≡ true)
    → 0 < length (take place line) → is_separator (slice_index (take place line) (length (take place line) - 1)) ≡ true
parted_front line place within begins some =
    let before : length (take place line) ≡ place = length-take-le place line within in
    rw (before, get_or-take place line (place - 1) 0 (omega (arith, before, some))) (begins (omega (arith, before, some)))

pub front_parted : (line : List ℕ) (place : ℕ) → place ≤ length line
    → (0 < length (take place line) → is_separator (slice_index (take place line) (length (take place line) - 1)) ≡ true)
    → 0 < place → is_separator (slice_index line (place - 1)) ≡ true
front_parted line place within begins some =
    let before : length (take place line) ≡ place = length-take-le place line within in
    let there = begins (omega (arith, before, some)) in
    rw (before, get_or-take place line (place - 1) 0 (omega (arith, some))) at there
