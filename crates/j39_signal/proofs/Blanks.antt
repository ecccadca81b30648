-- Blank payloads, with a selector's bits and without.
use Rattle.std.proofs.Common.{◌≡◌, ℕ, ◌+◌, ◌*◌, ◌/◌, ◌%◌, ◌^◌, ◌<◌, ◌≤◌, ◌⊎◌, ◌==◌, ◌&&◌, Bool, true, List, length, replicate, Option, Some, None, arith, inl}
use Rattle.std.proofs.Common.{inr, refl, sym, subst, ap, ◌∙◌}
use Rattle.std.specs.Prelude.{nat_le}
use Rattle.std.proofs.lemmas.Bool.{cases_lt, le-leb, leb-true, eq-eqb}
use Rattle.std.proofs.lemmas.List.{get_or-replicate, length-replicate}
use Rattle.std.proofs.lemmas.Nat.Bits.{bit_at_ones}
use Rattle.j39_signal.specs.Bits.{bit, number_at}
use Rattle.j39_signal.specs.Laid.{IsBlank}
use Rattle.j39_signal.specs.Selectors.{EndsInside, is_selected, selector_end}
use Rattle.j39_signal.specs.declared.selector.Selector.{Selector}

blank_bit : (bytes j : ℕ) → j < 8 * bytes → bit (replicate bytes 255) j ≡ 1
blank_bit bytes j h =
    ap (λ (b : ℕ). b / 2 ^ (j % 8) % 2) (get_or-replicate bytes (j / 8) 255 0 (omega arith)) ∙ bit_at_ones 8 (j % 8) (omega arith)

-- without a selector all ones are blank
pub ones_blank : (when : Option Selector) (bytes : ℕ) → when ≡ None → IsBlank when (replicate bytes 255)
ones_blank (Some w) bytes none = absurd cc
ones_blank None bytes none = record {
  selected = refl;
  others = λ j h free. blank_bit bytes j (omega (arith, h, length-replicate {A = ℕ} bytes 255));
}

selected : (w : Selector) (payload : List ℕ) → selector_end w ≤ 8 * length payload → number_at payload w.start w.bits ≡ w.value
    → is_selected (Some w) payload ≡ true
selected w payload inside written =
    let inside_is : nat_le (selector_end w) (8 * length payload) ≡ true = le-leb (selector_end w) (8 * length payload) inside in
    ap (λ (b : Bool). b && number_at payload w.start w.bits == w.value) inside_is ∙ eq-eqb (number_at payload w.start w.bits) w.value written

-- with one they are with its bits at its value
pub selector_blank : (w : Selector) (old new : List ℕ) (bytes : ℕ) → old ≡ replicate bytes 255 → length new ≡ length old
    → w.start + w.bits ≤ 8 * length old → number_at new w.start w.bits ≡ w.value
    → ((j : ℕ) → (j < w.start) ⊎ (w.start + w.bits ≤ j) → bit new j ≡ bit old j) → IsBlank (Some w) new
selector_blank w old new bytes ones same inside written others =
    let ones_at : (j : ℕ) → j < 8 * length new → bit old j ≡ 1 = λ j h.
    ap (λ (p : List ℕ). bit p j) ones
    ∙ blank_bit bytes j (omega (arith, h, same, ap (length {A = ℕ}) ones, length-replicate {A = ℕ} bytes 255)) in
    record {
      selected = selected w new (omega (arith, inside, same)) written;
      others = λ j h free. elim (cases_lt j w.start) [
        | inl before ↦ others j (inl before) ∙ ones_at j h
        | inr from ↦ elim (cases_lt j (w.start + w.bits)) [
          | inl within ↦ absurd (free (from, within))
          | inr behind ↦ others j (inr behind) ∙ ones_at j h
        ]
      ];
    }

-- by what a layout has
pub blank_by : (when : Option Selector) (w : Selector) (payload : List ℕ) → when ≡ Some w → IsBlank (Some w) payload → IsBlank when payload
blank_by when w payload is blank = subst (λ (o : Option Selector). IsBlank o payload) (sym is) blank

-- where the bits of a selector end
pub ends_in : (when : Option Selector) (w : Selector) (least bytes : ℕ) → when ≡ Some w → EndsInside least when → least ≤ bytes
    → w.start + w.bits ≤ 8 * bytes
ends_in when w least bytes is inside longer = omega (arith, inside w is, longer)

-- where they end, asked of one
pub ends_by : (when : Option Selector) (w : Selector) (bytes : ℕ) → when ≡ Some w → nat_le (selector_end w) (8 * bytes) ≡ true → EndsInside bytes when
ends_by when w bytes is inside v other =
    let one : v ≡ w = cc in
    omega (arith, leb-true (selector_end w) (8 * bytes) inside, ap (λ (u : Selector). u.start) one, ap (λ (u : Selector). u.bits) one)

pub ends_not_by : (when : Option Selector) (w : Selector) (bytes : ℕ) → when ≡ Some w → EndsInside bytes when → nat_le (selector_end w) (8 * bytes) ≡ true
ends_not_by when w bytes is inside = le-leb (selector_end w) (8 * bytes) (inside w is)

pub ends_of_none : (when : Option Selector) (bytes : ℕ) → when ≡ None → EndsInside bytes when
ends_of_none when bytes none w is = absurd cc
