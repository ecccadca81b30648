-- Pairs of which an address has another party, address after address.
use Rattle.std.proofs.Common.{◌≡◌, ◌==◌, ◌&&◌, ◌||◌, ◌+◌, ◌<◌, ◌≤◌, ℕ, nat_lt, Bool, true, false, if◌then◌else◌, List, Option, inl, inr, sym, ap, ◌∙◌}
use Rattle.std.proofs.Common.{arith, eqb-true}
use Rattle.std.proofs.lemmas.Bool.{cases_Bool, eqb-false, lt-ltb}
use Rattle.std.proofs.Math.Bool.{and-false, or-false, or-true}
use Rattle.j39_log.specs.PairListeners.{is_of_pair}
use Rattle.j39_log.proofs.Forgetting.{if_or, or_swap}
use Rattle.j39_follow.specs.declared.address.who.Who.{Who}
use Rattle.j39_follow.specs.inside.Hearing.{differs_at, is_changed}
use Rattle.j39_follow.proofs.Addresses.Tables.{lt_next_other}

-- one of the two addresses is below this one, and has another party
abbrev pub is_changed_below : List Who → List Who → Option ℕ → ℕ → ℕ → ℕ → Bool
is_changed_below old new replaced many source destination =
    (nat_lt source many && differs_at old new replaced source) || (nat_lt destination many && differs_at old new replaced destination)

next_yes : (differs : ℕ → Bool) (s k : ℕ) → differs k ≡ true → (nat_lt s (k + 1) && differs s) ≡ ((nat_lt s k && differs s) || k == s)
next_yes differs s k apart = elim (cases_Bool (k == s)) [
  | inl same ↦
      let is : k ≡ s = eqb-true k s same in
      let less : nat_lt s (k + 1) ≡ true = lt-ltb s (k + 1) (omega arith) in
      let here : differs s ≡ true = sym (ap differs is) ∙ apart in
      ap (λ (b : Bool). b && differs s) less ∙ here
      ∙ sym (ap (λ (b : Bool). (nat_lt s k && differs s) || b) same ∙ or-true (nat_lt s k && differs s))
  | inr other ↦
      ap (λ (b : Bool). b && differs s) (lt_next_other s k (eqb-false k s other))
      ∙ sym (ap (λ (b : Bool). (nat_lt s k && differs s) || b) other ∙ or-false (nat_lt s k && differs s))
]

next_no : (differs : ℕ → Bool) (s k : ℕ) → differs k ≡ false → (nat_lt s (k + 1) && differs s) ≡ (nat_lt s k && differs s)
next_no differs s k together = elim (cases_Bool (k == s)) [
  | inl same ↦
      let is : k ≡ s = eqb-true k s same in
      let here : differs s ≡ false = sym (ap differs is) ∙ together in
      ap (λ (b : Bool). nat_lt s (k + 1) && b) here ∙ and-false (nat_lt s (k + 1))
      ∙ sym (ap (λ (b : Bool). nat_lt s k && b) here ∙ and-false (nat_lt s k))
  | inr other ↦ ap (λ (b : Bool). b && differs s) (lt_next_other s k (eqb-false k s other))
]

merged : {A : Type 0} (a b c d : Bool) (f x : A) → (if a || b then f else (if c || d then f else x)) ≡ (if (c || a) || (d || b) then f else x)
merged a b c d f x = if_or (a || b) (c || d) f x ∙ ap (λ (any : Bool). if any then f else x) (or_swap c d a b)

-- a party that differs
pub changed_here : {A : Type 0} (old new : List Who) (replaced : Option ℕ) (k s d : ℕ) (f x now before : A) → differs_at old new replaced k ≡ true
    → now ≡ (if is_of_pair k s d then f else before) → before ≡ (if is_changed_below old new replaced k s d then f else x)
    → now ≡ (if is_changed_below old new replaced (k + 1) s d then f else x)
changed_here {A} old new replaced k s d f x now before apart turned was =
    let source = nat_lt s k && differs_at old new replaced s in
    let destination = nat_lt d k && differs_at old new replaced d in
    turned ∙ ap (λ (r : A). if is_of_pair k s d then f else r) was
    ∙ merged (k == s) (k == d) source destination f x
    ∙ sym (ap (λ (b : Bool). if b || (nat_lt d (k + 1) && differs_at old new replaced d) then f else x) (next_yes (differs_at old new replaced) s k apart)
    ∙ ap (λ (b : Bool). if (source || k == s) || b then f else x) (next_yes (differs_at old new replaced) d k apart))

-- one that doesn't
pub changed_not : {A : Type 0} (old new : List Who) (replaced : Option ℕ) (k s d : ℕ) (f x now : A) → differs_at old new replaced k ≡ false
    → now ≡ (if is_changed_below old new replaced k s d then f else x) → now ≡ (if is_changed_below old new replaced (k + 1) s d then f else x)
changed_not old new replaced k s d f x now together was =
    was ∙ sym (ap (λ (b : Bool). if b || (nat_lt d (k + 1) && differs_at old new replaced d) then f else x) (next_no (differs_at old new replaced) s k together)
    ∙ ap (λ (b : Bool). if (nat_lt s k && differs_at old new replaced s) || b then f else x) (next_no (differs_at old new replaced) d k together))

pub changed_all : {A : Type 0} (old new : List Who) (replaced : Option ℕ) (k s d : ℕ) (f x now : A) → s < 256 → d < 256 → 256 ≤ k
    → now ≡ (if is_changed_below old new replaced k s d then f else x) → now ≡ (if is_changed old new replaced s d then f else x)
changed_all old new replaced k s d f x now first second past was =
    was ∙ ap (λ (b : Bool). if (b && differs_at old new replaced s) || (nat_lt d k && differs_at old new replaced d) then f else x) (lt-ltb s k (omega arith))
    ∙ ap (λ (b : Bool). if differs_at old new replaced s || (b && differs_at old new replaced d) then f else x) (lt-ltb d k (omega arith))

pub none_changed : {A : Type 0} (old new : List Who) (replaced : Option ℕ) (s d : ℕ) (f x : A) → nat_lt s 0 ≡ false → nat_lt d 0 ≡ false
    → x ≡ (if is_changed_below old new replaced 0 s d then f else x)
none_changed old new replaced s d f x first second =
    sym (ap (λ (b : Bool). if (b && differs_at old new replaced s) || (nat_lt d 0 && differs_at old new replaced d) then f else x) first
    ∙ ap (λ (b : Bool). if false || (b && differs_at old new replaced d) then f else x) second)
