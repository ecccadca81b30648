-- The addresses that are noted, and at whose NAMEs.
use Rattle.std.proofs.Common.{◌≡◌, ℕ, ◌+◌, true, false, cond, ◌&&◌, ◌||◌, T, eqb, ltb}
use Rattle.std.proofs.Common.{List, [], ◌∷◌, get_or, refl, sym, ap, ◌∙◌, arith, Some, None}
use Rattle.std.proofs.Common.{map as map_list}
use Rattle.std.proofs.lemmas.Bool.{true≢false, or_left, or_right, eqb-true, eq-eqb, lt-ltb}
use Rattle.std.proofs.lemmas.List.Sums.{sum_by-cons}
use Rattle.std.specs.List.{list_any}
use Rattle.std.specs.Ordering.{nat_cmp, eq_by_cmp, is_eq, is_lt}
use Rattle.std.specs.declared.cmp.Ordering.TheVariants.{Less, Equal, Greater}
use Rattle.std.specs.Cmp.{nat_cmp_total, unsigned_tied}
use Rattle.std.specs.FinSet as set
use Rattle.std.specs.FinSet.{FinSet}
use Rattle.std.specs.FinMap as map
use Rattle.std.specs.FinMap.{FinMap, find, is_sorted, nat_cmp-IsAntisymmetric}
use Rattle.std.specs.FinMap.Entries.{below_all}
use Rattle.j39_claim.specs.inside.Noting.{Pairs, count_at, AreNotes}
use Rattle.j39_claim.specs.ExactAnswer.{noted_addresses}
use Rattle.j39_claim.proofs.RisingNotes.{map_of, head_part, tail_part}

abbrev addresses : Pairs → List ℕ
addresses es = map_list (λ (e : ℕ × ℕ). e.1) es

-- an address is among them where its count is not 0
counted_any : (q : ℕ) (es : Pairs) → ltb 0 (count_at es q) ≡ list_any (λ y. eqb y q) (addresses es)
counted_any q [] = refl
counted_any q (e ∷ es) =
    ap (ltb 0) (sum_by-cons (λ (pair : ℕ × ℕ). cond (eqb pair.1 q) 1 0) e es)
    ∙ elim (eqb e.1 q) as (λ b. ltb 0 (cond b 1 0 + count_at es q) ≡ (b || list_any (λ y. eqb y q) (addresses es))) [
      | true ↦ lt-ltb 0 (1 + count_at es q) (omega arith)
      | false ↦ ap (ltb 0) (let e : 0 + count_at es q ≡ count_at es q = omega arith in e) ∙ counted_any q es
    ]

pub noted_are : (noted : FinSet nat_cmp) (es : Pairs) (counts : List ℕ) → AreNotes es counts
    → ((q : ℕ) → set.contains noted q ≡ ltb 0 (get_or counts q 0)) → noted ≡ noted_addresses (map_of es)
noted_are noted es counts are each = set.same_set nat_cmp_total nat_cmp-IsAntisymmetric _ _ (λ q.
    each q ∙ ap (ltb 0) (are.counted q) ∙ counted_any q es
    ∙ ap (λ l. list_any (λ y. eqb y q) (addresses l)) (sym (map.entries-from_sorted nat_cmp es are.rising))
    ∙ sym (set.contains-from_list_nat (map.values (map_of es)) q))

-- where a note has an address, it is among them
found_any : (es : Pairs) (n b : ℕ) → find nat_cmp n es ≡ Some b → list_any (λ y. eqb y b) (addresses es) ≡ true
found_any [] n b is = absurd (cc)
found_any (e ∷ es) n b is =
    let among = list_any (λ y. eqb y b) (addresses es) in
    elim (eq_by_cmp nat_cmp n e.0) as (λ t. cond t (Some e.1) (find nat_cmp n es) ≡ Some b → (eqb e.1 b || among) ≡ true) [
      | true ↦ λ h. let same : e.1 ≡ b = cc in or_left (eqb e.1 b) _ (eq-eqb e.1 b same)
      | false ↦ λ h. or_right (eqb e.1 b) _ (found_any es n b h)
    ] is

-- and what is among them, some note has
below_none : (x : ℕ) (es : Pairs) → T (below_all nat_cmp x es) → find nat_cmp x es ≡ None
below_none x [] h = refl
below_none x (e ∷ es) h =
    elim (nat_cmp x e.0) as (λ o. T (is_lt o && below_all nat_cmp x es) → cond (is_eq o) (Some e.1) (find nat_cmp x es) ≡ None) [
      | Less ↦ λ rest. below_none x es rest
      | Equal ↦ λ none. absurd none
      | Greater ↦ λ none. absurd none
    ] h

any_found : (es : Pairs) (b : ℕ) → T (is_sorted nat_cmp es) → list_any (λ y. eqb y b) (addresses es) ≡ true
    → (n : ℕ) × (find nat_cmp n es ≡ Some b)
any_found [] b sorted h = absurd (true≢false (sym h))
any_found (e ∷ es) b sorted h =
    let among = list_any (λ y. eqb y b) (addresses es) in
    elim (eqb e.1 b) as (λ t. eqb e.1 b ≡ t → (t || among) ≡ true → (n : ℕ) × (find nat_cmp n (e ∷ es) ≡ Some b)) [
      | true ↦ λ same _.
          let first = ap (λ t. cond t (Some e.1) (find nat_cmp e.0 es)) (unsigned_tied e.0 e.0 ∙ eq-eqb e.0 e.0 refl) in
          (e.0, first ∙ ap Some (eqb-true e.1 b same))
      | false ↦ λ _ more. let (n, is) = any_found es b (tail_part e.0 es es sorted) more in (
        n,
        elim (eq_by_cmp nat_cmp n e.0) as (λ t. eq_by_cmp nat_cmp n e.0 ≡ t → cond t (Some e.1) (find nat_cmp n es) ≡ Some b) [
          | true ↦ λ tied. let same : n ≡ e.0 = eqb-true n e.0 (sym (unsigned_tied n e.0) ∙ tied) in
              let gone = below_none e.0 es (head_part e.0 es es sorted) in
              let there = ap (λ k. find nat_cmp k es) (sym same) ∙ is in absurd (cc)
          | false ↦ λ _. is
        ] refl,
      )
    ] refl h

-- where a note has an address, it is among the noted ones
pub noted_in : (notes : FinMap nat_cmp ℕ) (n b : ℕ) → map.get notes n ≡ Some b → set.contains (noted_addresses notes) b ≡ true
noted_in notes n b is =
    set.contains-from_list_nat (map.values notes) b
    ∙ found_any (map.entries notes) n b (sym (map.get-entries notes n) ∙ is)

-- and some note has each of them
pub noted_by_one : (notes : FinMap nat_cmp ℕ) (b : ℕ) → set.contains (noted_addresses notes) b ≡ true → (n : ℕ) × (map.get notes n ≡ Some b)
noted_by_one notes b in_set =
    let (n, is) = any_found (map.entries notes) b (map.entries_sorted notes) (sym (set.contains-from_list_nat (map.values notes) b) ∙ in_set) in
    (n, map.get-entries notes n ∙ is)
