-- What a write leaves alone.
use Rattle.std.proofs.Common.{◌≡◌, ℕ, ◌+◌, ◌-◌, ◌*◌, ◌/◌, ◌%◌, ◌<◌, ◌≤◌, List, ◌⊎◌, inl, inr, ⊎_elim, sym, ap, ◌∙◌, arith}
use Rattle.std.proofs.lemmas.Bool.{cases_lt}
use Rattle.std.specs.Int.{bit_at}
use Rattle.j39_signal.specs.Bits.{bit}

-- a payload whose bytes from first on became those of a number that is the old one but for some bits
pub kept_outside : (old new : List ℕ) (start width first count before after : ℕ) → first ≡ start / 8
    → ((i : ℕ) → i < 8 * count → bit_at before i ≡ bit old (8 * first + i))
    → ((i : ℕ) → i < 8 * count → bit new (8 * first + i) ≡ bit_at after i)
    → ((j : ℕ) → (j < 8 * first) ⊎ (8 * (first + count) ≤ j) → bit new j ≡ bit old j)
    → ((i : ℕ) → i < start % 8 → bit_at after i ≡ bit_at before i)
    → ((i : ℕ) → start % 8 + width ≤ i → i < 64 → bit_at after i ≡ bit_at before i)
    → count ≤ 8 → (j : ℕ) → (j < start) ⊎ (start + width ≤ j) → bit new j ≡ bit old j
kept_outside old new start width first count before after is was now outside below above few j place =
    let inside : (i : ℕ) → i < 8 * count → 8 * first + i ≡ j → bit_at after i ≡ bit_at before i → bit new j ≡ bit old j =
    λ i h at same. ap (bit new) (sym at) ∙ now i h ∙ same ∙ was i h ∙ ap (bit old) at
    in
    ⊎_elim (λ h. outside j (inl h)) (λ from. ⊎_elim
    (λ h. inside (j - 8 * first) (omega arith) (omega arith)
    (⊎_elim (λ p. below (j - 8 * first) (omega arith)) (λ p. above (j - 8 * first) (omega arith) (omega arith)) place))
    (λ h. outside j (inr h)) (cases_lt j (8 * (first + count)))) (cases_lt j (8 * first))
