-- How many NAMEs stand at each address, and the set of the addresses whose count is not 0.
use Rattle.std.proofs.Common.{◌≡◌, ◌≢◌, ℕ, zero, suc, ◌+◌, ◌<◌, Bool, true, false, cond, not, ◌&&◌, ◌||◌, eqb, ltb, List}
use Rattle.std.proofs.Common.{[], length, get_or, set, replicate, refl, sym, ap, ◌∙◌, arith, inl, inr, get_or-set_other, get_or-set_same}
use Rattle.std.proofs.lemmas.Bool.{cases_eq, eq-eqb, ne_eqb, lt-ltb}
use Rattle.std.proofs.lemmas.List.Sums.{sum_by-set, sum_by-insert, sum_by-remove}
use Rattle.std.specs.List.{insert, remove}
use Rattle.std.specs.Int.{from_bool}
use Rattle.std.specs.Ordering.{nat_cmp}
use Rattle.std.specs.Cmp.{nat_cmp_total, unsigned_tied}
use Rattle.std.specs.FinSet as set_of
use Rattle.std.specs.FinSet.{FinSet}
use Rattle.j39_claim.specs.inside.Noting.{Pairs, count_at, IsAt, IsGapFor, AreNotes, HasCounted}
use Rattle.j39_claim.proofs.RisingNotes.{note_set, note_inserted, note_removed}

digit_cond : (b : Bool) → cond b 1 0 ≡ from_bool b
digit_cond true = refl
digit_cond false = refl

abbrev no_counts : ℕ → List ℕ
no_counts n = replicate n 0

zeros : (n a : ℕ) → get_or (no_counts n) a 0 ≡ 0
zeros zero a = refl
zeros (suc n) zero = refl
zeros (suc n) (suc a) = zeros n a

-- no NAME stands anywhere
pub none_counted : HasCounted set_of.empty (replicate 254 0)
none_counted = record { each = λ a. set_of.contains-empty nat_cmp a ∙ sym (ap (ltb 0) (zeros 254 a)) }

pub no_notes_counted : AreNotes [] (replicate 254 0)
no_notes_counted = record { rising = tt; counted = λ a. zeros 254 a }

-- one NAME more at p
pub raised : (noted : FinSet nat_cmp) (counts : List ℕ) (p : ℕ) → p < length counts → HasCounted noted counts
    → HasCounted (set_of.insert noted p) (set counts p (get_or counts p 0 + 1))
raised noted counts p inside h = record {
  each = λ a.
      set_of.contains-insert nat_cmp_total noted p a ∙ ap (λ b. b || set_of.contains noted a) (unsigned_tied a p) ∙ by a;
}
  where
    by : (a : ℕ) → (eqb a p || set_of.contains noted a) ≡ ltb 0 (get_or (set counts p (get_or counts p 0 + 1)) a 0)
    by a = elim (cases_eq a p) [
      | inl same ↦ rw (same, eq-eqb p p refl, get_or-set_same) (sym (lt-ltb 0 (get_or counts p 0 + 1) (omega arith)))
      | inr other ↦ rw (ne_eqb a p other, get_or-set_other) (h.each a)
    ]

-- one NAME fewer at p: it was the last, or others stand there still
pub lowered_last : (noted : FinSet nat_cmp) (counts : List ℕ) (p n : ℕ) → p < length counts → n ≡ 0 → HasCounted noted counts
    → HasCounted (set_of.remove noted p) (set counts p n)
lowered_last noted counts p n inside last h = record {
  each = λ a.
      set_of.contains-remove nat_cmp_total noted p a ∙ ap (λ b. not b && set_of.contains noted a) (unsigned_tied a p) ∙ by a;
}
  where
    by : (a : ℕ) → (not (eqb a p) && set_of.contains noted a) ≡ ltb 0 (get_or (set counts p n) a 0)
    by a = elim (cases_eq a p) [
      | inl same ↦ rw (same, eq-eqb p p refl, get_or-set_same, last) refl
      | inr other ↦ rw (ne_eqb a p other, get_or-set_other) (h.each a)
    ]

pub lowered_still : (noted : FinSet nat_cmp) (counts : List ℕ) (p n : ℕ) → p < length counts → 0 < get_or counts p 0 → n ≢ 0
    → HasCounted noted counts → HasCounted noted (set counts p n)
lowered_still noted counts p n inside some still h = record { each = by }
  where
    by : (a : ℕ) → set_of.contains noted a ≡ ltb 0 (get_or (set counts p n) a 0)
    by a = elim (cases_eq a p) [
      | inl same ↦ rw (same, get_or-set_same) (h.each p ∙ lt-ltb 0 (get_or counts p 0) some ∙ sym (lt-ltb 0 n (omega arith)))
      | inr other ↦ rw get_or-set_other (h.each a)
    ]

-- what an edit of the notes makes of the counts
abbrev at_address : ℕ → ℕ × ℕ → ℕ
at_address a pair = cond (eqb pair.1 a) 1 0

pub count-set : (es : Pairs) (i n new a : ℕ) (d : ℕ × ℕ) → i < length es
    → count_at (set es i (n, new)) a + from_bool (eqb (get_or es i d).1 a) ≡ count_at es a + from_bool (eqb new a)
count-set es i n new a d inside = omega (arith, sum_by-set (at_address a) es i (n, new) d inside, digit_cond (eqb (get_or es i d).1 a), digit_cond (eqb new a))

pub count-insert : (es : Pairs) (i n new a : ℕ) → count_at (insert es i (n, new)) a ≡ count_at es a + from_bool (eqb new a)
count-insert es i n new a = omega (arith, sum_by-insert (at_address a) es i (n, new), digit_cond (eqb new a))

pub count-remove : (es : Pairs) (i a : ℕ) (d : ℕ × ℕ) → i < length es
    → count_at (remove es i) a + from_bool (eqb (get_or es i d).1 a) ≡ count_at es a
count-remove es i a d inside = omega (arith, sum_by-remove (at_address a) es i d inside, digit_cond (eqb (get_or es i d).1 a))

-- how a count changes
abbrev pub Fewer : ℕ → List ℕ → List ℕ → Type 0
Fewer address old new = (a : ℕ) → get_or new a 0 + from_bool (eqb address a) ≡ get_or old a 0

abbrev pub More : ℕ → List ℕ → List ℕ → Type 0
More address old new = (a : ℕ) → get_or new a 0 ≡ get_or old a 0 + from_bool (eqb address a)

-- notes after a move, a new note and the loss of one
pub moved : (es : Pairs) (n a i was : ℕ) (d : ℕ × ℕ) (counts lowered raised : List ℕ) → AreNotes es counts → IsAt es n i
    → was ≡ (get_or es i d).1
    → Fewer was counts lowered → More a lowered raised → AreNotes (set es i (n, a)) raised
moved es n a i was d counts lowered raised are at is fewer more = record {
  rising = (note_set es n a i are.rising at).rising;
  counted = λ q. omega (arith, more q, fewer q, are.counted q, count-set es i n a q d at.in_range, ap (λ p. from_bool (eqb p q)) is);
}

pub added : (es : Pairs) (n a i : ℕ) (counts raised : List ℕ) → AreNotes es counts → IsGapFor es n i → More a counts raised
    → AreNotes (insert es i (n, a)) raised
added es n a i counts raised are gap more = record {
  rising = (note_inserted es n a i are.rising gap).rising;
  counted = λ q. omega (arith, more q, are.counted q, count-insert es i n a q);
}

pub dropped : (es : Pairs) (n i was : ℕ) (d : ℕ × ℕ) (counts lowered : List ℕ) → AreNotes es counts → IsAt es n i → was ≡ (get_or es i d).1
    → Fewer was counts lowered → AreNotes (remove es i) lowered
dropped es n i was d counts lowered are at is fewer = record {
  rising = (note_removed es n i are.rising at).rising;
  counted = λ q. omega (arith, fewer q, are.counted q, count-remove es i q d at.in_range, ap (λ p. from_bool (eqb p q)) is);
}
