-- Notes of the units' NAMEs alone leave room for each of them.
use Rattle.std.proofs.Common.{◌≡◌, ℕ, zero, suc, ◌+◌, ◌-◌, ◌<◌, ◌≤◌, Bool, true, false, cond, ◌||◌, ◌⊎◌, inl, inr, eqb, ltb, List, [], ◌∷◌, length, get_or}
use Rattle.std.proofs.Common.{set, refl, sym, ap, ◌∙◌, arith, Option, Some, None}
use Rattle.std.proofs.lemmas.Bool.{cases_Bool, true≢false, or_left, or_right, eq-eqb, eqb-true, lt-ltb}
use Rattle.std.specs.Bool.{MatchBool}
use Rattle.std.specs.Option.{is_some}
use Rattle.std.specs.List.{list_any}
use Rattle.std.specs.Ordering.{nat_cmp}
use Rattle.std.specs.Cmp.{nat_cmp_total, unsigned_tied}
use Rattle.std.specs.FinMap.{FinMap, empty, get, insert, remove, len, get-empty, get-insert, get-remove, len-empty, len-insert, len-remove, same_map}
use Rattle.std.specs.FinMap.{nat_cmp-IsAntisymmetric}
use Rattle.j39_claim.specs.declared.item.Say.{Say}
use Rattle.j39_claim.specs.declared.item.Say.TheVariants.{Claim, Cannot}
use Rattle.j39_claim.specs.declared.item.Item.{Item}
use Rattle.j39_claim.specs.declared.item.Item.TheVariants.{AddressClaimed, Request}
use Rattle.j39_claim.specs.ClaimRule.{PlannedUnit, ClaimState, Answers, Reacts, holds_address, Moves, GivesUp}
use Rattle.j39_claim.specs.ClaimerValue.{ClaimerValue, can_note}
use Rattle.j39_bus.specs.Stations.{absent_unit, station_at}
use Rattle.j39_bus.specs.inside.Network.{names_of, has_unit_named, IsWellFormed}

nothing : (o : Option ℕ) → (is_some o ≡ true → ⊥) → o ≡ None
nothing None h = refl
nothing (Some x) h = absurd (h refl)

-- a map whose keys stand in a list is no longer than the list
len-le : (m : FinMap nat_cmp ℕ) (ns : List ℕ) → ((k : ℕ) → is_some (get m k) ≡ true → list_any (λ n. eqb k n) ns ≡ true) → len m ≤ length ns
len-le m [] all =
    let none : m ≡ empty = same_map nat_cmp_total nat_cmp-IsAntisymmetric m empty
    (λ q. nothing (get m q) (λ h. true≢false (sym (all q h))) ∙ sym (get-empty nat_cmp q)) in
    omega (arith, ap len none, len-empty nat_cmp ℕ)
len-le m (n ∷ ns) all =
    let rest : len (remove m n) ≤ length ns = len-le (remove m n) ns
    (λ k h. later k (sym (ap is_some (get-remove nat_cmp_total m n k ∙ ap (λ b. cond b None (get m k)) (unsigned_tied k n))) ∙ h)) in
    one_less (is_some (get m n)) (len-remove nat_cmp_total m n) rest
  where
    one_less : (b : Bool) → len (remove m n) ≡ cond b (len m - 1) (len m) → len (remove m n) ≤ length ns → len m ≤ length (n ∷ ns)
    one_less true e r = omega arith
    one_less false e r = omega arith

    later : (k : ℕ) → is_some (cond (eqb k n) None (get m k)) ≡ true → list_any (λ n. eqb k n) ns ≡ true
    later k h = elim (eqb k n) as (λ b. is_some (cond b None (get m k)) ≡ true → (b || list_any (λ n. eqb k n) ns) ≡ true → list_any (λ n. eqb k n) ns ≡ true) [
      | true ↦ λ gone _. absurd (true≢false (sym gone))
      | false ↦ λ _ there. there
    ] h (all k (some k h))
      where
        some : (k : ℕ) → is_some (cond (eqb k n) None (get m k)) ≡ true → is_some (get m k) ≡ true
        some k h = elim (eqb k n) as (λ b. is_some (cond b None (get m k)) ≡ true → is_some (get m k) ≡ true)
            [ true ↦ λ g. absurd (true≢false (sym g)) | false ↦ λ g. g ] h

length-names : (cs : List ClaimerValue) → length (names_of cs) ≡ length cs
length-names [] = refl
length-names (c ∷ cs) = omega (arith, length-names cs)

-- a unit's NAME is one of the units'
pub named : (cs : List ClaimerValue) (u : ℕ) → u < length cs → has_unit_named cs (get_or cs u absent_unit).planned.name ≡ true
named [] u inside = absurd (omega arith)
named (c ∷ cs) zero inside = or_left (eqb c.planned.name c.planned.name) (has_unit_named cs c.planned.name) (eq-eqb c.planned.name c.planned.name refl)
named (c ∷ cs) (suc u) inside = or_right (eqb (get_or cs u absent_unit).planned.name c.planned.name) (has_unit_named cs (get_or cs u absent_unit).planned.name)
    (named cs u (omega arith))

-- what is noted once n is
noted_with : (notes : FinMap nat_cmp ℕ) (n a k : ℕ) → is_some (get (insert notes n a) k) ≡ true → (k ≡ n) ⊎ (is_some (get notes k) ≡ true)
noted_with notes n a k h =
    elim (eqb k n) as (λ b. eqb k n ≡ b → is_some (cond b (Some a) (get notes k)) ≡ true → (k ≡ n) ⊎ (is_some (get notes k) ≡ true)) [
      | true ↦ λ same _. inl (eqb-true k n same)
      | false ↦ λ _ there. inr there
    ] refl (sym (ap is_some (get-insert nat_cmp_total notes n a k ∙ ap (λ b. cond b (Some a) (get notes k)) (unsigned_tied k n))) ∙ h)

noted_without : (notes : FinMap nat_cmp ℕ) (n k : ℕ) → is_some (get (remove notes n) k) ≡ true → is_some (get notes k) ≡ true
noted_without notes n k h =
    elim (eqb k n) as (λ b. is_some (cond b None (get notes k)) ≡ true → is_some (get notes k) ≡ true) [
      | true ↦ λ gone. absurd (true≢false (sym gone))
      | false ↦ λ there. there
    ] (sym (ap is_some (get-remove nat_cmp_total notes n k ∙ ap (λ b. cond b None (get notes k)) (unsigned_tied k n))) ∙ h)

-- each unit can note each
pub can_note_all : (cs : List ClaimerValue) (ls : List (List (List Item))) (u v : ℕ) → IsWellFormed cs ls → u < length cs
    → can_note (station_at cs v).notes (get_or cs u absent_unit).planned.name ≡ true
can_note_all cs ls u v well inside =
    let n : ℕ = (get_or cs u absent_unit).planned.name in
    let notes : FinMap nat_cmp ℕ = (station_at cs v).notes in
    elim (cases_Bool (is_some (get notes n))) [
      | inl there ↦ or_left (is_some (get notes n)) (ltb (len notes) 128) there
      | inr new ↦
          let all : len (insert notes n 0) ≤ length (names_of cs) = len-le (insert notes n 0) (names_of cs) (λ k h. elim (noted_with notes n 0 k h) [
            | inl same ↦ rw same (named cs u inside)
            | inr old ↦ well.notes v k old
          ]) in
          let more : len (insert notes n 0) ≡ cond (is_some (get notes n)) (len notes) (len notes + 1) = len-insert nat_cmp_total notes n 0 in
          let one : len (insert notes n 0) ≡ len notes + 1 = more ∙ ap (λ b. cond b (len notes) (len notes + 1)) new in
          or_right (is_some (get notes n)) (ltb (len notes) 128) (lt-ltb (len notes) 128 (omega (arith, length-names cs, well.few)))
    ]

-- who hears an item under a NAME notes no other NAME
noted_by_answer : (c : PlannedUnit) (s : ClaimState) (n : ℕ) (item : Item) (says : Option Say) (new : ClaimState) → Answers c s n item says new
    → (k : ℕ) → is_some (get new.notes k) ≡ true → (k ≡ n) ⊎ (is_some (get s.notes k) ≡ true)
noted_by_answer c s n (AddressClaimed (Claim a)) says new answers k h =
    noted_with s.notes n a k (sym (ap (λ m. is_some (get m k)) (notes_are (holds_address s.address a) (ltb n c.name) answers)) ∙ h)
  where
    notes_are : (b d : Bool) → MatchBool b
        (MatchBool d (Moves c (record s { notes = insert s.notes n a }) says new ⊎ GivesUp c (record s { notes = insert s.notes n a }) says new)
        ((says ≡ Some (Claim a)) × (new ≡ record s { notes = insert s.notes n a })))
        ((says ≡ None) × (new ≡ record s { notes = insert s.notes n a })) → new.notes ≡ insert s.notes n a
    notes_are true true (inl (b, may, free, said, is)) = ap (λ (t : ClaimState). t.notes) is
    notes_are true true (inr (none, said, is)) = ap (λ (t : ClaimState). t.notes) is
    notes_are true false (said, is) = ap (λ (t : ClaimState). t.notes) is
    notes_are false d (said, is) = ap (λ (t : ClaimState). t.notes) is
noted_by_answer c s n (AddressClaimed Cannot) says new answers k h =
    inr (noted_without s.notes n k (sym (ap (λ (t : ClaimState). is_some (get t.notes k)) answers.1) ∙ h))
noted_by_answer c s n Request says new answers k h = inr (sym (ap (λ (t : ClaimState). is_some (get t.notes k)) answers.1) ∙ h)

-- nor does one that doesn't claim
pub noted_then : (c : PlannedUnit) (s : ClaimState) (n : ℕ) (item : Item) (says : Option Say) (new : ClaimState) → Reacts c s n item says new
    → (k : ℕ) → is_some (get new.notes k) ≡ true → (k ≡ n) ⊎ (is_some (get s.notes k) ≡ true)
noted_then c s n item says new reacts k h =
    elim (c.claims) as (λ b. MatchBool b (Answers c s n item says new) ((says ≡ None) × (new ≡ s)) → (k ≡ n) ⊎ (is_some (get s.notes k) ≡ true)) [
      | true ↦ λ answers. noted_by_answer c s n item says new answers k h
      | false ↦ λ still. inr (sym (ap (λ (t : ClaimState). is_some (get t.notes k)) still.1) ∙ h)
    ] reacts

-- the NAMEs stay
pub named-set : (cs : List ClaimerValue) (v : ℕ) (c : ClaimerValue) (k : ℕ) → c.planned ≡ (get_or cs v absent_unit).planned
    → has_unit_named (set cs v c) k ≡ has_unit_named cs k
named-set [] v c k same = refl
named-set (d ∷ cs) zero c k same = ap (λ (x : PlannedUnit). eqb k x.name || has_unit_named cs k) same
named-set (d ∷ cs) (suc v) c k same = ap (λ b. eqb k d.planned.name || b) (named-set cs v c k same)
