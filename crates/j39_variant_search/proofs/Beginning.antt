-- Variants that begin with some places.
use Rattle.std.proofs.Common.{◌≡◌, ℕ, zero, suc, ◌+◌, ◌<◌, ◌≤◌, List, [], ◌∷◌, ◌++◌, Bool, true, ◌||◌, length, refl, sym, ap, ◌∙◌, arith}
use Rattle.std.proofs.Common.{◌⊎◌, inl, inr}
use Rattle.std.specs.declared.alloc.Global.{Global}
use Rattle.std.specs.Prelude.{Vec, slice_index}
use Rattle.std.specs.List.{list_any, range_with_len}
use Rattle.std.proofs.lemmas.Bool.{false≢true, eqb-true}
use Rattle.std.proofs.lemmas.List.{length-append, length-map}
use Rattle.j39_variants.specs.VariantPlans.{flag_at}
use Rattle.j39_variants.specs.Variants.{IsEarlier}
use Rattle.j39_variant_search.specs.inside.BoxParts.{IsBoxPart, flags_at, hole_at, is_taken_at}
use Rattle.j39_variant_search.specs.inside.NearHoles.{StartsWith, HasNoneOutside, HasOutside, IsNextPlace, IsOutsideNear, NoneBegins}
use Rattle.j39_variant_search.specs.VariantSearch.{IsFirstOutside, IsOutsideBoxes, NoneOutside, box_flags, boxes_flags, is_in_box}
use Rattle.j39_variant_search.proofs.InBoxes.{eqb_same, within_at, within_length}
use Rattle.j39_variant_search.proofs.Leaving.{AreMet, part_back, to_met, to_near}
use Rattle.j39_variant_search.proofs.Pieces.{part_from, part_passes}

begins_passes : (taken v : List ℕ) → StartsWith taken v → (k : ℕ) → is_taken_at taken k (slice_index v k) ≡ true
begins_passes [] v is k = refl
begins_passes (p ∷ taken) [] is k = absurd is
begins_passes (p ∷ taken) (q ∷ v) is zero = eqb_same q p (sym is.0)
begins_passes (p ∷ taken) (q ∷ v) is (suc k) = begins_passes taken v is.1 k

passes_begins : (taken v : List ℕ) → length taken ≤ length v → ((k : ℕ) → k < length v → is_taken_at taken k (slice_index v k) ≡ true) → StartsWith taken v
passes_begins [] v few passes = tt
passes_begins (p ∷ taken) [] few passes = absurd (omega arith)
passes_begins (p ∷ taken) (q ∷ v) few passes =
    (sym (eqb-true q p (passes 0 (omega arith))), passes_begins taken v (omega arith) (λ k below. passes (suc k) (omega arith)))

begins_more : (taken v : List ℕ) → StartsWith taken v → length taken < length v → StartsWith (taken ++ slice_index v (length taken) ∷ []) v
begins_more [] [] is less = absurd (omega arith)
begins_more [] (q ∷ v) is less = (refl, tt)
begins_more (p ∷ taken) [] is less = absurd is
begins_more (p ∷ taken) (q ∷ v) is less = (is.0, begins_more taken v is.1 (omega arith))

begins_all : (taken v : List ℕ) → StartsWith taken v → length taken ≡ length v → v ≡ taken
begins_all [] [] is same = refl
begins_all [] (q ∷ v) is same = absurd (omega arith)
begins_all (p ∷ taken) [] is same = absurd is
begins_all (p ∷ taken) (q ∷ v) is same = let rest = begins_all taken v is.1 (omega arith) in rw (is.0, rest) refl

below_flags : (flags : List Bool) (place : ℕ) → flag_at flags place ≡ true → place < length flags
below_flags [] place has = absurd (false≢true has)
below_flags (a ∷ flags) zero has = omega arith
below_flags (a ∷ flags) (suc place) has = let rest = below_flags flags place has in omega (arith, rest)

-- ---- the part that begins with some places

module _ (within part : List (Vec Bool Global)) (holes : List (Vec (Vec Bool Global) Global)) (near taken : List ℕ) (few : length taken ≤ length within)
    (is : IsBoxPart (is_taken_at taken) (box_flags within) (box_flags part)) where
  pub one_taken : HasOutside part holes near → (v : List ℕ) × IsOutsideNear within holes near v × StartsWith taken v
  one_taken (v, out) =
      let n = length-map within (λ choice. choice.items) in
      let whole = part_back (is_taken_at taken) within part holes near v is out in
      let long = within_length (box_flags within) v whole.in_box in (
        v,
        whole,
        passes_begins taken v (omega (arith, n, long))
            (λ k below. part_passes (is_taken_at taken) (box_flags within) (box_flags part) is v out.in_box k (omega (arith, long))),
      )

  pub none_taken : HasNoneOutside part holes near → NoneBegins within holes near taken
  none_taken none v out begins =
      none v
      (record {
        in_box = part_from (is_taken_at taken) (box_flags within) (box_flags part) is v out.in_box (λ k below. begins_passes taken v begins k);
        in_none = out.in_none;
      })

-- no alternative of the next choice leads on
pub none_next : (within : List (Vec Bool Global)) (holes : List (Vec (Vec Bool Global) Global)) (near taken : List ℕ) → length taken < length within
    → ((place : ℕ) → place < length (flags_at (box_flags within) (length taken)) → NoneBegins within holes near (taken ++ place ∷ []))
    → NoneBegins within holes near taken
none_next within holes near taken less none v out begins =
    let n = length-map within (λ choice. choice.items) in
    let long = within_length (box_flags within) v out.in_box in
    none (slice_index v (length taken))
    (below_flags (flags_at (box_flags within) (length taken)) (slice_index v (length taken))
    (within_at (box_flags within) v out.in_box (length taken) (omega (arith, n))))
    v out (begins_more taken v begins (omega (arith, n, long)))

-- ---- the first variant

pub record IsFirstTo (within : List (Vec Bool Global)) (holes : List (Vec (Vec Bool Global) Global)) (near taken : List ℕ) : Type 0 where
  pub few : length taken ≤ length within
  pub one : (v : List ℕ) × IsOutsideNear within holes near v × StartsWith taken v
  pub first : (v : List ℕ) → IsOutsideNear within holes near v → ¬ IsEarlier v taken

not_earlier_none : (v : List ℕ) → IsEarlier v [] → ⊥
not_earlier_none [] is = is
not_earlier_none (p ∷ v) is = is

pub first_none : (within : List (Vec Bool Global)) (holes : List (Vec (Vec Bool Global) Global)) (near : List ℕ) → HasOutside within holes near
    → IsFirstTo within holes near []
first_none within holes near (v, out) = record { few = omega arith; one = (v, out, tt); first = λ w is earlier. not_earlier_none w earlier }

earlier_parts : (v taken : List ℕ) (place : ℕ) → IsEarlier v (taken ++ place ∷ []) → IsEarlier v taken
    ⊎ ((q : ℕ) × (q < place) × StartsWith (taken ++ q ∷ []) v)
earlier_parts [] [] place is = absurd is
earlier_parts [] (p ∷ taken) place is = absurd is
earlier_parts (q ∷ v) [] place (inl less) = inr (q, less, (refl, tt))
earlier_parts (q ∷ v) [] place (inr (same, rest)) = absurd (not_earlier_none v rest)
earlier_parts (q ∷ v) (p ∷ taken) place (inl less) = inl (inl less)
earlier_parts (q ∷ v) (p ∷ taken) place (inr (same, rest)) = elim (earlier_parts v taken place rest) [
  | inl earlier ↦ inl (inr (same, earlier))
  | inr (r, less, begins) ↦ inr (r, less, (sym same, begins))
]

pub first_more : (within : List (Vec Bool Global)) (holes : List (Vec (Vec Bool Global) Global)) (near taken : List ℕ) (place : ℕ)
    → length taken < length within
    → IsFirstTo within holes near taken → IsNextPlace within holes near taken place → IsFirstTo within holes near (taken ++ place ∷ [])
first_more within holes near taken place less before next = record {
  few = let n = length-append taken (place ∷ []) in omega (arith, n);
  one = next.one;
  first = λ v out earlier.
      elim (earlier_parts v taken place earlier) [
        | inl is ↦ before.first v out is
        | inr (q, below, begins) ↦ next.none q below v out begins
      ];
}

-- ---- all holes are near

any_alike : (f g : ℕ → Bool) (a b n : ℕ) → ((k : ℕ) → f (a + k) ≡ g (b + k)) → list_any f (range_with_len a n) ≡ list_any g (range_with_len b n)
any_alike f g a b zero same = refl
any_alike f g a b (suc n) same =
    let here : f a ≡ g b = let e : a + 0 ≡ a = omega arith in let d : b + 0 ≡ b = omega arith in rw (e, d) at (same 0) in
    let rest = any_alike f g (a + 1) (b + 1) n
    (λ k. let e : a + suc k ≡ a + 1 + k = omega arith in let d : b + suc k ≡ b + 1 + k = omega arith in rw (e, d) at (same (suc k))) in
    rw (here, rest) refl

any_places : (test : List (Vec Bool Global) → Bool) (holes : List (Vec (Vec Bool Global) Global))
    → list_any (λ place. test (hole_at holes place)) (range_with_len 0 (length holes)) ≡ list_any (λ hole. test hole.items) holes
any_places test [] = refl
any_places test (h ∷ holes) =
    ap (λ b. test h.items || b)
    (any_alike (λ place. test (hole_at (h ∷ holes) place)) (λ place. test (hole_at holes place)) 1 0 (length holes)
    (λ k. let e : 1 + k ≡ suc k = omega arith in let d : 0 + k ≡ k = omega arith in rw (e, d) refl)
    ∙ any_places test holes)

any_boxes : (v : List ℕ) (holes : List (Vec (Vec Bool Global) Global))
    → list_any (λ hole. is_in_box (box_flags hole.items) v) holes ≡ list_any (λ hole. is_in_box hole v) (boxes_flags holes)
any_boxes v [] = refl
any_boxes v (h ∷ holes) = ap (λ b. is_in_box (box_flags h.items) v || b) (any_boxes v holes)

module _ (within : List (Vec Bool Global)) (holes : List (Vec (Vec Bool Global) Global)) (near : List ℕ)
    (same : AreMet within holes (range_with_len 0 (length holes)) near) where
  all_near : (v : List ℕ)
      → list_any (λ place. is_in_box (box_flags (hole_at holes place)) v) (range_with_len 0 (length holes)) ≡ list_any (λ hole. is_in_box hole v)
      (boxes_flags holes)
  all_near v = any_places (λ hole. is_in_box (box_flags hole) v) holes ∙ any_boxes v holes

  from_near : (v : List ℕ) → IsOutsideNear within holes near v → IsOutsideBoxes (box_flags within) (boxes_flags holes) v
  from_near v is = let out = to_near within holes (range_with_len 0 (length holes)) near same v is
      in record { in_box = out.in_box; in_none = sym (all_near v) ∙ out.in_none }

  to_these : (v : List ℕ) → IsOutsideBoxes (box_flags within) (boxes_flags holes) v → IsOutsideNear within holes near v
  to_these v is = to_met within holes (range_with_len 0 (length holes)) near same v (record { in_box = is.in_box; in_none = all_near v ∙ is.in_none })

  pub none_outside : HasNoneOutside within holes near → NoneOutside (box_flags within) (boxes_flags holes)
  none_outside none v is = none v (to_these v is)

  pub first_outside_of : (taken : List ℕ) → length within ≤ length taken → IsFirstTo within holes near taken
      → IsFirstOutside (box_flags within) (boxes_flags holes) taken
  first_outside_of taken whole is =
      let n = length-map within (λ choice. choice.items) in
      let few = is.few in
      let (v, out, begins) = is.one in
      let long = within_length (box_flags within) v out.in_box in
      let same : v ≡ taken = begins_all taken v begins (omega (arith, n, few, long)) in
      record {
        is_outside = from_near taken (rw (← same) out);
        first = λ w other earlier. is.first w (to_these w other) earlier;
      }
