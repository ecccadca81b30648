-- Variants that leave a hole first by a choice.
use Rattle.std.proofs.Common.{◌≡◌, ℕ, zero, suc, ◌<◌, List, [], ◌∷◌, Bool, true, false, not, length, refl, sym, ap, ◌∙◌, arith, subst}
use Rattle.std.proofs.Common.{inl, inr}
use Rattle.std.specs.declared.alloc.Global.{Global}
use Rattle.std.specs.Prelude.{Vec, filter, slice_index}
use Rattle.std.specs.List.{list_any}
use Rattle.std.proofs.lemmas.Bool.{false≢true, cases_order}
use Rattle.std.proofs.lemmas.Bool.Decides.{nat_tests}
use Rattle.std.proofs.lemmas.List.{length-map}
use Rattle.j39_variants.specs.VariantPlans.{flag_at}
use Rattle.j39_variant_search.specs.inside.BoxParts.{IsBoxPart, has_alternative, hole_at, is_behind, is_empty_box, is_kept, is_met}
use Rattle.j39_variant_search.specs.inside.NearHoles.{HasOutside, IsOutsideNear}
use Rattle.j39_variant_search.specs.VariantSearch.{box_flags, is_in_box}
use Rattle.j39_variant_search.proofs.Counts.{box_count}
use Rattle.j39_variant_search.proofs.InBoxes.{filter_any, filter_at, met_at, not_met, some_within}
use Rattle.j39_variant_search.proofs.Pieces.{part_fewer, part_in}

-- it takes what the hole has of the choices before, and of this one what the hole hasn't
pub record Leaves (hole : List (List Bool)) (first : ℕ) (v : List ℕ) : Type 0 where
  pub here : has_alternative hole first (slice_index v first) ≡ false
  pub before : (k : ℕ) → k < first → has_alternative hole k (slice_index v k) ≡ true

leaves_later : (f : List Bool) (hole : List (List Bool)) (p : ℕ) (v : List ℕ) → flag_at f p ≡ true → (first : ℕ) × (first < length hole) × Leaves hole first v
    → (first : ℕ) × (first < length (f ∷ hole)) × Leaves (f ∷ hole) first (p ∷ v)
leaves_later f hole p v here (first, below, is) = (suc first, omega arith, record { here = is.here; before = λ k less. earlier k less }) where
  earlier : (k : ℕ) → k < suc first → has_alternative (f ∷ hole) k (slice_index (p ∷ v) k) ≡ true
  earlier zero less = here
  earlier (suc k) less = is.before k (omega arith)

-- each variant that isn't in a hole leaves it
pub leaves : (hole : List (List Bool)) (v : List ℕ) → length v ≡ length hole → is_in_box hole v ≡ false → (first : ℕ) × (first < length hole)
    × Leaves hole first v
leaves [] [] same out = absurd (false≢true (sym out))
leaves [] (p ∷ v) same out = absurd (omega arith)
leaves (f ∷ hole) [] same out = absurd (omega arith)
leaves (f ∷ hole) (p ∷ v) same out = go (flag_at f p) refl (λ rest. leaves hole v (omega arith) rest) where
  go : (b : Bool) → flag_at f p ≡ b → (is_in_box hole v ≡ false → (first : ℕ) × (first < length hole) × Leaves hole first v)
      → (first : ℕ) × (first < length (f ∷ hole)) × Leaves (f ∷ hole) first (p ∷ v)
  go false here rest = (0, omega arith, record { here = here; before = λ k below. absurd (omega arith) })
  go true here rest = leaves_later f hole p v here (rest (rw here at out))

pub kept_before : (first k : ℕ) (b : Bool) → k < first → is_kept first k b ≡ b
kept_before first k b less = grind (arith, nat_tests)

kept_here : (first : ℕ) (b : Bool) → is_kept first first b ≡ not b
kept_here first b = grind (arith, nat_tests)

pub kept_behind : (first k : ℕ) (b : Bool) → first < k → is_kept first k b ≡ true
kept_behind first k b less = grind (arith, nat_tests)

pub leaves_kept : (hole : List (List Bool)) (first : ℕ) (v : List ℕ) → Leaves hole first v → (k : ℕ) → is_behind hole first k (slice_index v k) ≡ true
leaves_kept hole first v is k = elim (cases_order k first) [
  | inl same ↦
      let here : is_behind hole first first (slice_index v first) ≡ true = kept_here first
      (has_alternative hole first (slice_index v first)) ∙ ap not is.here in
      rw same here
  | inr (inl less) ↦ kept_before first k (has_alternative hole k (slice_index v k)) less ∙ is.before k less
  | inr (inr more) ↦ kept_behind first k (has_alternative hole k (slice_index v k)) more
]

-- ---- the holes that a box meets

empty_list : (xs : List ℕ) → length xs ≡ 0 → xs ≡ []
empty_list [] none = refl
empty_list (x ∷ xs) none = absurd (omega arith)

abbrev pub AreMet : List (Vec Bool Global) → List (Vec (Vec Bool Global) Global) → List ℕ → List ℕ → Type 0
AreMet within holes near met = met ≡ filter (λ place. is_met within (hole_at holes place)) near

module _ (within : List (Vec Bool Global)) (holes : List (Vec (Vec Bool Global) Global)) (near met : List ℕ) (same : AreMet within holes near met) where
  near_alike : (v : List ℕ) → is_in_box (box_flags within) v ≡ true
      → list_any (λ place. is_in_box (box_flags (hole_at holes place)) v) met ≡ list_any (λ place. is_in_box (box_flags (hole_at holes place)) v) near
  near_alike v inside =
      ap (list_any (λ place. is_in_box (box_flags (hole_at holes place)) v)) same
      ∙ filter_any (λ place. is_in_box (box_flags (hole_at holes place)) v) (λ place. is_met within (hole_at holes place)) near
      (λ place none. not_met within (hole_at holes place) v none inside)

  pub to_near : (v : List ℕ) → IsOutsideNear within holes met v → IsOutsideNear within holes near v
  to_near v is = record { in_box = is.in_box; in_none = sym (near_alike v is.in_box) ∙ is.in_none }

  pub to_met : (v : List ℕ) → IsOutsideNear within holes near v → IsOutsideNear within holes met v
  to_met v is = record { in_box = is.in_box; in_none = near_alike v is.in_box ∙ is.in_none }

  pub none_met : length met ≡ 0 → is_empty_box within ≡ false → HasOutside within holes near
  none_met nothing full =
      let (v, inside) = some_within within full in (
        v,
        record {
          in_box = inside;
          in_none = sym (near_alike v inside) ∙ ap (list_any (λ place. is_in_box (box_flags (hole_at holes place)) v))
              (empty_list met nothing);
        },
      )

  pub one_met : (k : ℕ) → k < length met → is_met within (hole_at holes (slice_index met k)) ≡ true
  one_met k below =
      let P : List ℕ → Type 0 = λ xs. k < length xs → is_met within (hole_at holes (slice_index xs k)) ≡ true in
      subst P (sym same) (filter_at (λ place. is_met within (hole_at holes place)) near k) below

-- ---- the parts of a box that leave a hole which it meets

module _ (within hole : List (Vec Bool Global)) (meets : is_met within hole ≡ true) where
  pub part_less : (first : ℕ) (part : List (Vec Bool Global)) → first < length within → IsBoxPart (is_behind (box_flags hole) first) (box_flags within)
      (box_flags part)
      → box_count (box_flags part) < box_count (box_flags within)
  part_less first part below is =
      let n = length-map within (λ choice. choice.items) in
      let (place, here, there) = met_at within hole meets first below in
      part_fewer (is_behind (box_flags hole) first) (box_flags within) (box_flags part) is first place (omega (arith, n)) here
      (kept_here first (has_alternative (box_flags hole) first place) ∙ ap not there)

-- a variant of a part is one of the box
pub part_back : (test : ℕ → ℕ → Bool) (within part : List (Vec Bool Global)) (holes : List (Vec (Vec Bool Global) Global)) (near v : List ℕ)
    → IsBoxPart test (box_flags within) (box_flags part) → IsOutsideNear part holes near v → IsOutsideNear within holes near v
part_back test within part holes near v is out = record {
  in_box = part_in test (box_flags within) (box_flags part) is v out.in_box;
  in_none = out.in_none;
}
