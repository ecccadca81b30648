-- What is reported of the first so many places of a list, and of one more.
use Rattle.std.proofs.Common.{◌≡◌, ℕ, ◌+◌, ◌<◌, List, [], ◌∷◌, ◌++◌, All, length, length-append, get_or, Option, None, inl, inr, sym, subst, ap, ◌∙◌, arith}
use Rattle.std.proofs.Math.Seq.{get_or-append_seam}
use Rattle.std.proofs.lemmas.Bool.{cases_lt}
use Rattle.std.proofs.lemmas.List.{get_or_append_left}
use Rattle.std.proofs.lemmas.List.Elements.{All-append, All-cons}

-- what holds of the first so many, and of one more
pub one_more : {X : Type 0} (Is : ℕ → Option X → Type 0) (xs : List (Option X)) (x : Option X) (n : ℕ) → length xs ≡ n
    → ((k : ℕ) → k < n → Is k (get_or xs k None)) → Is n x → (k : ℕ) → k < n + 1 → Is k (get_or (xs ++ x ∷ []) k None)
one_more Is xs x n count stated is k below = elim (cases_lt k n) [
  | inl before ↦ subst (Is k) (sym (get_or_append_left xs (x ∷ []) None k (omega (arith, before, count)))) (stated k before)
  | inr after ↦
      let here : k ≡ n = omega arith in
      let last : get_or (xs ++ x ∷ []) n None ≡ x = ap (λ (m : ℕ). get_or (xs ++ x ∷ []) m None) (sym count) ∙ get_or-append_seam xs x [] None in
      subst (λ (m : ℕ). Is m (get_or (xs ++ x ∷ []) m None)) (sym here) (subst (Is n) (sym last) is)
]

-- so many are reported, each by its place, and each is short
pub record AreReported {X : Type 0} (Is : ℕ → Option X → Type 0) (IsShort : Option X → Type 0) (n : ℕ) (xs : List (Option X)) : Type 0 where
  pub count : length xs ≡ n
  pub each : (k : ℕ) → k < n → Is k (get_or xs k None)
  pub short : All IsShort xs

pub one_stated : {X : Type 0} (Is : ℕ → Option X → Type 0) (IsShort : Option X → Type 0) (n : ℕ) (xs : List (Option X)) (x : Option X)
    → AreReported Is IsShort n xs → Is n x → IsShort x → AreReported Is IsShort (n + 1) (xs ++ x ∷ [])
one_stated Is IsShort n xs x old is short = record {
  count = let many = length-append xs (x ∷ []) in let before = old.count in omega (arith, many, before);
  each = one_more Is xs x n old.count old.each is;
  short = All-append IsShort xs (x ∷ []) old.short (All-cons IsShort x [] short (λ j d below. absurd (omega arith)));
}
