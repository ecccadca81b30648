-- The earlier of two first variants.
use Rattle.std.specs.declared.alloc.Global.{Global}
use Rattle.std.proofs.Common.{◌≡◌, ℕ, zero, suc, drop, nat_lt, ◌≤◌, ◌⊎◌, true, false, ◌||◌, List, [], ◌∷◌, ◌++◌, Option, Some, None, Vec, length, inl, inr, sym}
use Rattle.std.proofs.Common.{◌∙◌, arith}
use Rattle.std.proofs.lemmas.Bool.{cases_lt, cases_order, false≢true, lt-ltb, or_cases, or_left, or_right}
use Rattle.std.proofs.lemmas.List.Folds.{list_any-append}
use Rattle.j39_variants.specs.declared.line.ProductLine.{ProductLine}
use Rattle.j39_variants.specs.Variants.{IsEarlier}
use Rattle.j39_line_findings.specs.Conditions.{Condition, meets_any, meets_condition}
use Rattle.j39_line_witnesses.specs.FirstMeeting.{IsFirstMeeting, IsWitnessOf, NoneMeets}

pub earlier_through : (x w v : List ℕ) → IsEarlier x w → IsEarlier w v → IsEarlier x v
earlier_through [] w v one other = absurd one
earlier_through (p ∷ x) [] v one other = absurd one
earlier_through (p ∷ x) (r ∷ w) [] one other = absurd other
earlier_through (p ∷ x) (r ∷ w) (q ∷ v) one other = elim one [
  | inl less ↦ elim other [
    | inl more ↦ inl (omega (arith, less, more))
    | inr same ↦ let e = same.0 in inl (omega (arith, less, e))
  ]
  | inr here ↦ elim other [
    | inl more ↦ let e = here.0 in inl (omega (arith, e, more))
    | inr same ↦ inr (here.0 ∙ same.0, earlier_through x w v here.1 same.1)
  ]
]

-- what is earlier than one that the other is no earlier than is earlier than the other
pub earlier_than_later : (x w v : List ℕ) → length w ≡ length v → (IsEarlier w v → ⊥) → IsEarlier x v → IsEarlier x w
earlier_than_later [] w v long later is = absurd is
earlier_than_later (p ∷ x) w [] long later is = absurd is
earlier_than_later (p ∷ x) [] (q ∷ v) long later is = absurd (omega (arith, long))
earlier_than_later (p ∷ x) (r ∷ w) (q ∷ v) long later is = elim (cases_order r q) [
  | inl same ↦ elim is [
    | inl less ↦ inl (omega (arith, less, same))
    | inr here ↦ inr (here.0 ∙ sym same, earlier_than_later x w v (omega (arith, long)) (λ e. later (inr (same, e))) here.1)
  ]
  | inr (inl less) ↦ absurd (later (inl less))
  | inr (inr more) ↦ elim is [
    | inl less ↦ inl (omega (arith, less, more))
    | inr here ↦ let e = here.0 in inl (omega (arith, e, more))
  ]
]

module _ (line : ProductLine) (some others : List Condition) where
  either : (v : List ℕ) → meets_any line v (some ++ others) ≡ (meets_any line v some || meets_any line v others)
  either v = list_any-append (meets_condition line v) some others

  split : (v : List ℕ) → meets_any line v (some ++ others) ≡ true → (meets_any line v some ≡ true) ⊎ (meets_any line v others ≡ true)
  split v meets = or_cases (meets_any line v some) (meets_any line v others) (sym (either v) ∙ meets)

  pub none_left : (found : Option (Vec ℕ Global)) → NoneMeets line some → IsWitnessOf line others found → IsWitnessOf line (some ++ others) found
  none_left None none rest = λ v possible. either v ∙ (rw (none v possible) (rest v possible))
  none_left (Some w) none is = record {
    possible = is.possible;
    meets = either w.items ∙ or_right (meets_any line w.items some) (meets_any line w.items others) is.meets;
    first = λ v possible meets. elim (split v meets) [
      | inl here ↦ absurd (false≢true (sym (none v possible) ∙ here))
      | inr there ↦ is.first v possible there
    ];
  }

  pub none_right : (found : Option (Vec ℕ Global)) → IsWitnessOf line some found → NoneMeets line others → IsWitnessOf line (some ++ others) found
  none_right None rest none = λ v possible. either v ∙ (rw (rest v possible) (none v possible))
  none_right (Some w) is none = record {
    possible = is.possible;
    meets = either w.items ∙ or_left (meets_any line w.items some) (meets_any line w.items others) is.meets;
    first = λ v possible meets. elim (split v meets) [
      | inl here ↦ is.first v possible here
      | inr there ↦ absurd (false≢true (sym (none v possible) ∙ there))
    ];
  }

  module _ (v w : List ℕ) (one : IsFirstMeeting line some v) (other : IsFirstMeeting line others w) where
    pub second_first : IsEarlier w v → IsFirstMeeting line (some ++ others) w
    second_first earlier = record {
      possible = other.possible;
      meets = either w ∙ or_right (meets_any line w some) (meets_any line w others) other.meets;
      first = λ x possible meets before. elim (split x meets) [
        | inl here ↦ one.first x possible here (earlier_through x w v before earlier)
        | inr there ↦ other.first x possible there before
      ];
    }

    pub first_first : (IsEarlier w v → ⊥) → IsFirstMeeting line (some ++ others) v
    first_first later =
        let long : length w ≡ length v = other.possible.is_variant.of_each ∙ sym one.possible.is_variant.of_each in
        record {
          possible = one.possible;
          meets = either v ∙ or_left (meets_any line v some) (meets_any line v others) one.meets;
          first = λ x possible meets before. elim (split x meets) [
            | inl here ↦ one.first x possible here before
            | inr there ↦ other.first x possible there (earlier_than_later x w v long later before)
          ];
        }

-- ---- place by place

-- what is earlier from a place on, where all before is one
pub record IsDecidedBehind (one other behind beyond : List ℕ) : Type 0 where
  pub to : IsEarlier one other → IsEarlier behind beyond
  pub back : IsEarlier behind beyond → IsEarlier one other

-- nothing is earlier than what has no place there
none_behind : (v w : List ℕ) (k : ℕ) → length w ≤ k → IsEarlier v (drop k w) → ⊥
none_behind [] [] zero few is = is
none_behind (p ∷ v) [] zero few is = is
none_behind v (q ∷ w) zero few is = omega (arith, few)
none_behind [] [] (suc k) few is = is
none_behind (p ∷ v) [] (suc k) few is = is
none_behind v (q ∷ w) (suc k) few is = none_behind v w k (omega (arith, few)) is

pub none_at : (v w : List ℕ) (k : ℕ) → false ≡ nat_lt k (length w) → IsEarlier v (drop k w) → ⊥
none_at v w k none is = elim (cases_lt k (length w)) [
  | inl less ↦ false≢true (none ∙ lt-ltb k (length w) less)
  | inr more ↦ none_behind v w k more is
]
