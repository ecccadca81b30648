-- A line that ends as a frame does spells it.
use Rattle.std.proofs.Common.{◌≡◌, ℕ, ◌+◌, ◌-◌, true, false, List, [], ◌∷◌, ◌++◌, length, take, drop, slice_range, Some, Ok, refl, sym, ap, subst, ◌∙◌, arith}
use Rattle.std.specs.List.{All}
use Rattle.std.proofs.lemmas.List.{take-append-drop, drop-drop, drop_more, append-nil, length-drop, length-take-le, get_or-take}
use Rattle.std.proofs.lemmas.List.Elements.{All-append, All-cons, All-weaker}
use Rattle.hex.specs.Hex.{decode_of, is_hex_digit}
use Rattle.hex.proofs.HexLemmas.{decode_of-ok}
use Rattle.j39_id.specs.FrameLine.{is_separator, identifier_in, LineSpells}
use Rattle.j39_id.specs.inside.LineEnd.{MayBeginAt}
use Rattle.j39_id.proofs.LineLaws.{digit_is_whole, identifier_digits}

-- the end of the line: eight bytes, the hash, and the rest
end_parts : (line : List ℕ) (start : ℕ) → MayBeginAt line start
    → drop start line ≡ slice_range line start (start + 8) ++ 35 ∷ drop (start + 9) line
end_parts line start m =
    let eight : start + 8 - start ≡ 8 = omega arith in
    let behind : drop 8 (drop start line) ≡ drop (start + 8) line = drop-drop 8 start line ∙ ap (λ (n : ℕ). drop n line) (omega arith) in
    let hash : drop (start + 8) line ≡ 35 ∷ drop (start + 8 + 1) line =
    drop_more line (start + 8) 0 (omega (arith, m.within)) ∙ ap (λ (c : ℕ). c ∷ drop (start + 8 + 1) line) m.hash in
    let next : drop (start + 8 + 1) line ≡ drop (start + 9) line = ap (λ (n : ℕ). drop n line) (omega arith) in
    rw eight
    (sym (take-append-drop 8 (drop start line))
    ∙ ap (λ (xs : List ℕ). take 8 (drop start line) ++ xs) (behind ∙ hash ∙ ap (λ (xs : List ℕ). 35 ∷ xs) next))

-- digits have no separator
whole_of_digits : (digits : List ℕ) → All (λ c. is_hex_digit c ≡ true) digits → All (λ c. is_separator c ≡ false) digits
whole_of_digits digits h = All-weaker (λ c. is_hex_digit c ≡ true) (λ c. is_separator c ≡ false) digit_is_whole digits h

-- nor has the end of a line that spells a frame
end_whole : (line : List ℕ) (start number : ℕ) (payload : List ℕ) → MayBeginAt line start
    → identifier_in (slice_range line start (start + 8)) ≡ Some number → decode_of (drop (start + 9) line) ≡ Ok payload
    → All (λ c. is_separator c ≡ false) (drop start line)
end_whole line start number payload m identifier bytes =
    let digits : List ℕ = slice_range line start (start + 8) in
    let rest : List ℕ = drop (start + 9) line in
    subst (λ (xs : List ℕ). All (λ c. is_separator c ≡ false) xs) (sym (end_parts line start m))
    (All-append (λ c. is_separator c ≡ false) digits (35 ∷ rest) (whole_of_digits digits (identifier_digits digits number identifier).1)
    (All-cons (λ c. is_separator c ≡ false) 35 rest refl (whole_of_digits rest (decode_of-ok rest payload bytes).1)))

pub end_spells : (line : List ℕ) (start number : ℕ) (payload : List ℕ) → MayBeginAt line start
    → identifier_in (slice_range line start (start + 8)) ≡ Some number → decode_of (drop (start + 9) line) ≡ Ok payload
    → LineSpells line number payload
end_spells line start number payload m identifier bytes =
    let before : length (take start line) ≡ start = length-take-le start line (omega (arith, m.within)) in
    let count : length (drop start line) ≡ length line - start = length-drop start line in
    let rest : length (drop (start + 9) line) ≡ length line - (start + 9) = length-drop (start + 9) line in (
      drop start line,
      record {
        front = take start line;
        back = [];
        row = sym (ap (λ (xs : List ℕ). take start line ++ xs) (append-nil (drop start line)) ∙ take-append-drop start line);
        some = omega (arith, count, m.within);
        whole = end_whole line start number payload m identifier bytes;
        parted = λ front.
            rw (before, get_or-take start line (start - 1) 0 (omega (arith, front, before))) (m.parted (omega (arith, front, before)));
        blank = λ k d below. absurd (omega arith);
      },
      record {
        digits = slice_range line start (start + 8);
        rest = drop (start + 9) line;
        parts = end_parts line start m;
        identifier = identifier;
        room = omega (arith, rest, m.room);
        bytes = bytes;
      },
    )
