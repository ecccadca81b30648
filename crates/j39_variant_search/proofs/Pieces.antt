-- Parts of boxes, and the variants in them.
use Rattle.std.proofs.Common.{◌≡◌, ℕ, zero, suc, ◌+◌, ◌<◌, ◌≤◌, List, [], ◌∷◌, ◌++◌, Bool, true, false, ◌&&◌, get_or, length, refl, sym, ap, ◌∙◌, arith}
use Rattle.std.proofs.Common.{inl, inr}
use Rattle.std.specs.declared.alloc.Global.{Global}
use Rattle.std.specs.Prelude.{Vec, slice_index}
use Rattle.std.proofs.Math.Nat.{eq-or-lt_of_le}
use Rattle.std.proofs.lemmas.Bool.{and_parts}
use Rattle.std.proofs.lemmas.List.{length-append}
use Rattle.j39_variants.specs.VariantPlans.{flag_at}
use Rattle.j39_variant_search.specs.inside.BoxParts.{IsBoxPart, flags_at, flags_with, has_alternative}
use Rattle.j39_variant_search.specs.VariantSearch.{box_flags, is_in_box}
use Rattle.j39_variant_search.proofs.Counts.{box_count, box_fewer}
use Rattle.j39_variant_search.proofs.InBoxes.{both_true, flag_with, within_at, within_from, within_length}

-- the first choices of a part
pub record IsPartTo (n : ℕ) (test : ℕ → ℕ → Bool) (within part : List (List Bool)) : Type 0 where
  pub of_each : length part ≡ n
  pub has_these : (k p : ℕ) → k < n → has_alternative part k p ≡ (has_alternative within k p && test k p)

push_before : (xs : List (List Bool)) (f : List Bool) (k : ℕ) → k < length xs → flags_at (xs ++ f ∷ []) k ≡ flags_at xs k
push_before [] f k below = absurd (omega arith)
push_before (x ∷ xs) f zero below = refl
push_before (x ∷ xs) f (suc k) below = push_before xs f k (omega arith)

push_last : (xs : List (List Bool)) (f : List Bool) → flags_at (xs ++ f ∷ []) (length xs) ≡ f
push_last [] f = refl
push_last (x ∷ xs) f = push_last xs f

flags_push : (xs : List (Vec Bool Global)) (v : Vec Bool Global) → box_flags (xs ++ v ∷ []) ≡ box_flags xs ++ v.items ∷ []
flags_push [] v = refl
flags_push (x ∷ xs) v = ap (λ rest. x.items ∷ rest) (flags_push xs v)

pub flags_read : (within : List (Vec Bool Global)) (k : ℕ) (v : Vec Bool Global) → k < length within → v ≡ get_or within k v
    → flags_at (box_flags within) k ≡ v.items
flags_read [] k v below is = absurd (omega arith)
flags_read (x ∷ within) zero v below is = ap (λ w. w.items) (sym is)
flags_read (x ∷ within) (suc k) v below is = flags_read within k v (omega arith) is

-- one choice more
pub part_more : (n : ℕ) (test : ℕ → ℕ → Bool) (within : List (List Bool)) (part : List (Vec Bool Global)) (flags : List Bool) (v : Vec Bool Global)
    → flags_at within n ≡ flags → v.items ≡ flags_with (test n) flags → IsPartTo n test within (box_flags part)
    → IsPartTo (n + 1) test within (box_flags (part ++ v ∷ []))
part_more n test within part flags v here is before = record {
  of_each = let e = length-append (box_flags part) (v.items ∷ []) in let b = before.of_each in rw (flags_push part v) (omega (arith, e, b));
  has_these = λ k p below. rw (flags_push part v) (at k p (omega arith));
} where
  at : (k p : ℕ) → k ≤ n → flag_at (flags_at (box_flags part ++ v.items ∷ []) k) p ≡ (flag_at (flags_at within k) p && test k p)
  at k p most = elim (eq-or-lt_of_le most) [
    | inl same ↦
        let last : flags_at (box_flags part ++ v.items ∷ []) k ≡ v.items = ap (flags_at (box_flags part ++ v.items ∷ []))
        (same ∙ sym before.of_each) ∙ push_last (box_flags part) v.items in
        rw (last, is, same, here) (flag_with (test n) flags p)
    | inr less ↦
        let b = before.of_each in
        rw (push_before (box_flags part) v.items k (omega (arith, b))) (before.has_these k p less)
  ]

pub part_whole : (n : ℕ) (test : ℕ → ℕ → Bool) (within part : List (List Bool)) → n ≡ length within → IsPartTo n test within part → IsBoxPart test within part
part_whole n test within part all is = record {
  of_each = is.of_each ∙ all;
  has_these = λ k p below. is.has_these k p (omega arith);
}

module _ (test : ℕ → ℕ → Bool) (within part : List (List Bool)) (is : IsBoxPart test within part) where
  pub part_in : (v : List ℕ) → is_in_box part v ≡ true → is_in_box within v ≡ true
  part_in v inside =
      let n = is.of_each in
      within_from within v (within_length part v inside ∙ is.of_each)
      (λ k below. (and_parts _ _ (sym (is.has_these k (slice_index v k) below) ∙ within_at part v inside k (omega (arith, n)))).0)

  pub part_passes : (v : List ℕ) → is_in_box part v ≡ true → (k : ℕ) → k < length within → test k (slice_index v k) ≡ true
  part_passes v inside k below =
      let n = is.of_each in
      (and_parts (has_alternative within k (slice_index v k)) _ (sym (is.has_these k (slice_index v k) below) ∙ within_at part v inside k (omega (arith, n)))).1

  pub part_from : (v : List ℕ) → is_in_box within v ≡ true → ((k : ℕ) → k < length within → test k (slice_index v k) ≡ true) → is_in_box part v ≡ true
  part_from v inside passes =
      let n = is.of_each in
      within_from part v (within_length within v inside ∙ sym is.of_each)
      (λ k below. let less : k < length within = omega (arith, n) in
      is.has_these k (slice_index v k) less ∙ both_true _ _ (within_at within v inside k less) (passes k less))

  -- it has fewer alternatives, where one of the box doesn't pass
  pub part_fewer : (k p : ℕ) → k < length within → has_alternative within k p ≡ true → test k p ≡ false → box_count part < box_count within
  part_fewer k p below here out =
      box_fewer part within k p is.of_each
      (λ j q less has. (and_parts (has_alternative within j q) (test j q) (sym (is.has_these j q less) ∙ has)).0) below
      (is.has_these k p below ∙ without (has_alternative within k p) (test k p) out) here where
        without : (a b : Bool) → b ≡ false → (a && b) ≡ false
        without true b none = none
        without false b none = refl
