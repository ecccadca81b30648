-- To and from a place with no unit there is nothing.
use Rattle.std.proofs.Common.{◌≡◌, ℕ, zero, suc, ◌+◌, ◌<◌, ◌≤◌, Bool, true, ◌⊎◌, List, [], get_or, ap, ◌∙◌, arith, inl, inr}
use Rattle.std.proofs.lemmas.Bool.{and_parts, cases_eq, cases_lt}
use Rattle.std.proofs.lemmas.List.{get_or_past}
use Rattle.std.specs.List.{list_all, range_with_len}
use Rattle.j39_bus.specs.Queued.{IsTable, pair_in}

pub none_outside : {X : Type 0} (n : ℕ) (lists : List (List (List X))) → IsTable n lists → (u v : ℕ) → (n ≤ u) ⊎ (n ≤ v) → pair_in lists u v ≡ []
none_outside {X} n lists table u v out = elim (cases_lt u n) [
  | inr past ↦ ap (λ (r : List (List X)). get_or r v []) (get_or_past lists u [] (omega (arith, table.rows)))
  | inl less ↦ elim out [
    | inl past ↦ absurd (omega arith)
    | inr past ↦ get_or_past (get_or lists u []) v [] (omega (arith, table.columns u less))
  ]
]

pub all_at : (test : ℕ → Bool) (a n : ℕ) → list_all test (range_with_len a n) ≡ true → (k : ℕ) → a ≤ k → k < a + n → test k ≡ true
all_at test a zero all k from to = absurd (omega arith)
all_at test a (suc n) all k from to = elim (cases_eq k a) [
  | inl same ↦ ap test same ∙ (and_parts (test a) (list_all test (range_with_len (a + 1) n)) all).0
  | inr other ↦ all_at test (a + 1) n (and_parts (test a) (list_all test (range_with_len (a + 1) n)) all).1 k (omega arith) (omega arith)
]

-- what holds of each list of a table holds everywhere, if it holds of the empty list
pub each_list : {X : Type 0} (test : List X → Bool) → test [] ≡ true → (n : ℕ) (lists : List (List (List X))) → IsTable n lists
    → list_all (λ u. list_all (λ v. test (pair_in lists u v)) (range_with_len 0 n)) (range_with_len 0 n) ≡ true → (u v : ℕ) → test (pair_in lists u v) ≡ true
each_list test none n lists table all u v = elim (cases_lt u n) [
  | inr past ↦ ap test (none_outside n lists table u v (inl past)) ∙ none
  | inl less ↦ elim (cases_lt v n) [
    | inr past ↦ ap test (none_outside n lists table u v (inr past)) ∙ none
    | inl inside ↦
        let row = all_at (λ s. list_all (λ t. test (pair_in lists s t)) (range_with_len 0 n)) 0 n all u (omega arith) (omega arith) in
        all_at (λ t. test (pair_in lists u t)) 0 n row v (omega arith) (omega arith)
  ]
]
