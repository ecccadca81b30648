-- Facts on hex digits.
use Rattle.std.proofs.Common.{◌≡◌, ℕ, List, [], ◌∷◌, ◌++◌, take, drop, get_or, sym, refl, ap, ◌∙◌, append_assoc}
use Rattle.std.proofs.lemmas.List.{take-append-drop}
use Rattle.hex.specs.Hex.{encode_with}

-- two more digits of the table t, at the places m and n, are written before what is left
pub two_more : (t front new rest all : List ℕ) (i j m n : ℕ) → new ≡ front ++ (get_or t i 0 ∷ (get_or t j 0 ∷ []))
    → i ≡ m → j ≡ n → front ++ (get_or t m 0 ∷ (get_or t n 0 ∷ rest)) ≡ all → new ++ rest ≡ all
two_more t front new rest all i j m n e ei ej h = rw (e, append_assoc, ei, ej) h

-- the digits of bytes and of bytes behind them
encode-append : (t xs ys : List ℕ) → encode_with t (xs ++ ys) ≡ encode_with t xs ++ encode_with t ys
unfolding encode_with
encode-append t [] ys = refl
encode-append t (b ∷ xs) ys = let rest = encode-append t xs ys in rw rest refl

-- the digits of the first eight bytes are written before those of the others
pub next_part : (t bytes left old new digits all : List ℕ) → new ≡ old ++ digits → digits ≡ encode_with t (take 8 bytes) → left ≡ drop 8 bytes
    → old ++ encode_with t bytes ≡ all → new ++ encode_with t left ≡ all
next_part t bytes left old new digits all writes is remains before =
    let parts : encode_with t bytes ≡ encode_with t (take 8 bytes) ++ encode_with t (drop 8 bytes) =
    ap (encode_with t) (sym (take-append-drop 8 bytes)) ∙ encode-append t (take 8 bytes) (drop 8 bytes) in
    ap (λ (x : List ℕ). x ++ encode_with t left) writes ∙ append_assoc old digits (encode_with t left)
    ∙ ap (λ (x : List ℕ). old ++ (x ++ encode_with t left)) is
    ∙ ap (λ (x : List ℕ). old ++ (encode_with t (take 8 bytes) ++ encode_with t x)) remains
    ∙ ap (λ (x : List ℕ). old ++ x) (sym parts) ∙ before
