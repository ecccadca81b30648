-- By which choices a part of a box has no variant outside.
use Rattle.std.proofs.Common.{◌≡◌, ℕ, zero, suc, ◌+◌, ◌<◌, ◌≤◌, List, [], ◌∷◌, Bool, true, false, ◌&&◌, ◌||◌, not, map, length, refl, sym, ap, ◌∙◌, arith}
use Rattle.std.proofs.Common.{below_more}
use Rattle.std.proofs.Common.{inl, inr}
use Rattle.std.specs.declared.alloc.Global.{Global}
use Rattle.std.specs.Prelude.{Vec, nat_le, slice_index}
use Rattle.std.specs.List.{list_any, range_with_len}
use Rattle.std.proofs.lemmas.Bool.{false≢true, cases_order, or_parts}
use Rattle.std.proofs.lemmas.Bool.Decides.{nat_tests}
use Rattle.std.proofs.lemmas.List.{length-map}
use Rattle.j39_variants.specs.VariantPlans.{flag_at}
use Rattle.j39_variant_search.specs.VariantSearch.{box_flags, is_in_box}
use Rattle.j39_variant_search.specs.inside.BoxParts.{IsBoxPart, flags_at, has_alternative, has_some, hole_at, is_behind, is_empty_box, is_left_at, is_met}
use Rattle.j39_variant_search.specs.inside.NearHoles.{HasNoneOutside, IsInBoxBy, IsNoneBy, IsOutsideNear, choices_inside, empty_choices, is_by_leaving}
use Rattle.j39_variant_search.specs.inside.NearHoles.{in_either}
use Rattle.j39_variant_search.proofs.InBoxes.{any_at, both_true, filter_none, met_length, no_flag, not_left, within_at, within_length}
use Rattle.j39_variant_search.proofs.Leaving.{AreMet, Leaves, kept_before, kept_behind, leaves, leaves_kept}

-- ---- flags by choice

flag_from : (test : ℕ → Bool) (a n k : ℕ) → k < n → flag_at (map test (range_with_len a n)) k ≡ test (a + k)
flag_from test a zero k below = absurd (omega arith)
flag_from test a (suc n) zero below = let e : a + 0 ≡ a = omega arith in rw e refl
flag_from test a (suc n) (suc k) below = let e : a + suc k ≡ a + 1 + k = omega arith in rw e (flag_from test (a + 1) n k (omega arith))

flag_of : (test : ℕ → Bool) (n k : ℕ) → k < n → flag_at (map test (range_with_len 0 n)) k ≡ test k
flag_of test n k below = let e : 0 + k ≡ k = omega arith in rw e at (flag_from test 0 n k below)

none_from : (test : ℕ → Bool) (a n k : ℕ) → list_any test (range_with_len a n) ≡ false → k < n → test (a + k) ≡ false
none_from test a zero k none below = absurd (omega arith)
none_from test a (suc n) zero none below =
    let e : a + 0 ≡ a = omega arith in
    rw e (or_parts (test a) (list_any test (range_with_len (a + 1) n)) none).0
none_from test a (suc n) (suc k) none below =
    let e : a + suc k ≡ a + 1 + k = omega arith in
    rw e (none_from test (a + 1) n k (or_parts (test a) (list_any test (range_with_len (a + 1) n)) none).1 (omega arith))

none_of : (test : ℕ → Bool) (n k : ℕ) → list_any test (range_with_len 0 n) ≡ false → k < n → test k ≡ false
none_of test n k none below = let e : 0 + k ≡ k = omega arith in rw e at (none_from test 0 n k none below)

or_left : (a b : Bool) → a ≡ true → (a || b) ≡ true
or_left true b is = refl
or_left false b is = absurd (false≢true is)

or_right : (a b : Bool) → b ≡ true → (a || b) ≡ true
or_right true b is = refl
or_right false b is = is

last_false : (a b c : Bool) → (a && (b && c)) ≡ false → a ≡ true → b ≡ true → c ≡ false
last_false true true c none one other = none
last_false true false c none one other = absurd (false≢true other)
last_false false b c none one other = absurd (false≢true one)

at_most_true : (a b : ℕ) → a ≤ b → nat_le a b ≡ true
at_most_true a b most = grind (arith, nat_tests)

-- ---- a box of which some choice is empty

none_of_empty : (within : List (Vec Bool Global)) (takes : ℕ → ℕ) → is_empty_box within ≡ true
    → ((choice : ℕ) → choice < length (box_flags within) → flag_at (empty_choices within) choice ≡ true → has_alternative (box_flags within) choice
    (takes choice) ≡ true) → ⊥
none_of_empty [] takes is on = false≢true is
none_of_empty (f ∷ within) takes is on =
    go (has_some f.items) refl
    (λ rest. none_of_empty within (λ choice. takes (suc choice)) rest (λ choice below flag. on (suc choice) (omega arith) flag)) where
      go : (b : Bool) → has_some f.items ≡ b → (is_empty_box within ≡ true → ⊥) → ⊥
      go true some rest = rest (rw some at is)
      go false none rest = no_flag f.items (takes 0) none (on 0 (omega arith) (ap not none))

pub none_by_empty : (whole within : List (Vec Bool Global)) (holes : List (Vec (Vec Bool Global) Global)) (near : List ℕ) → is_empty_box within ≡ true
    → IsNoneBy whole within holes near (empty_choices within)
none_by_empty whole within holes near is v out on = none_of_empty within (slice_index v) is on

-- ---- the choices by which a hole is left, in turn

pub record IsNoneTo (whole within hole : List (Vec Bool Global)) (holes : List (Vec (Vec Bool Global) Global)) (met : List ℕ) (by : List Bool)
    (n : ℕ) : Type 0 where
  pub inside : (choice : ℕ) → choice < length within → is_left_at (box_flags within) (box_flags hole) choice ≡ false
      → is_left_at (box_flags whole) (box_flags hole) choice ≡ true → flag_at by choice ≡ true
  pub none : (first : ℕ) → first < n → (v : List ℕ) → IsOutsideNear whole holes met v → IsInBoxBy by (box_flags within) v → Leaves (box_flags hole) first v → ⊥

module _ (whole within hole : List (Vec Bool Global)) (holes : List (Vec (Vec Bool Global) Global)) (met : List ℕ) where
  pub none_to_start : IsNoneTo whole within hole holes met (choices_inside whole within hole) 0
  none_to_start = record {
    inside = λ choice below kept left.
        flag_of (λ c. not (is_left_at (box_flags within) (box_flags hole) c) && is_left_at (box_flags whole) (box_flags hole) c) (length within) choice below
        ∙ both_true (not (is_left_at (box_flags within) (box_flags hole) choice)) (is_left_at (box_flags whole) (box_flags hole) choice) (ap not kept) left;
    none = λ first below. absurd (omega arith);
  }

  has_hole : (box : List (Vec Bool Global)) (choice place : ℕ) → is_left_at (box_flags box) (box_flags hole) choice ≡ false
      → has_alternative (box_flags box) choice place ≡ true → has_alternative (box_flags hole) choice place ≡ true
  has_hole box choice place none here = not_left (flags_at (box_flags box) choice) (flags_at (box_flags hole) choice) place none here

  -- by a choice of which the part is in the hole
  pub none_to_kept : (by : List Bool) (n : ℕ) → length whole ≡ length within → n < length within → is_left_at (box_flags within) (box_flags hole) n ≡ false
      → IsNoneTo whole within hole holes met by n → IsNoneTo whole within hole holes met by (n + 1)
  none_to_kept by n same below kept before = record {
    inside = before.inside;
    none = below_more (λ first. (v : List ℕ) → IsOutsideNear whole holes met v → IsInBoxBy by (box_flags within) v → Leaves (box_flags hole) first v
        → ⊥) n before.none here;
  } where
    here : (v : List ℕ) → IsOutsideNear whole holes met v → IsInBoxBy by (box_flags within) v → Leaves (box_flags hole) n v → ⊥
    here v out on way = go (is_left_at (box_flags whole) (box_flags hole) n) refl where
      go : (b : Bool) → is_left_at (box_flags whole) (box_flags hole) n ≡ b → ⊥
      go true left =
          let m = length-map within (λ choice. choice.items) in
          false≢true (sym way.here ∙ has_hole within n (slice_index v n) kept (on n (omega (arith, m)) (before.inside n below kept left)))
      go false none =
          let m = length-map whole (λ choice. choice.items) in
          false≢true (sym way.here ∙ has_hole whole n (slice_index v n) none (within_at (box_flags whole) v out.in_box n (omega (arith, m))))

  -- by one of which it goes beyond the hole
  pub none_to_left : (by more : List Bool) (n : ℕ) (part : List (Vec Bool Global)) → IsBoxPart (is_behind (box_flags hole) n) (box_flags within)
      (box_flags part)
      → IsNoneBy whole part holes met more → IsNoneTo whole within hole holes met by n
      → IsNoneTo whole within hole holes met (in_either (length within) by more) (n + 1)
  none_to_left by more n part is none before = record {
    inside = λ choice below kept left.
        flag_of (λ c. flag_at by c || flag_at more c) (length within) choice below ∙ or_left (flag_at by choice) (flag_at more choice)
        (before.inside choice below kept left);
    none =
        below_more
        (λ first. (v : List ℕ) → IsOutsideNear whole holes met v → IsInBoxBy (in_either (length within) by more) (box_flags within) v
        → Leaves (box_flags hole) first v → ⊥) n
        earlier here;
  } where
    m : length (box_flags within) ≡ length within
    m = length-map within (λ choice. choice.items)

    earlier : (first : ℕ) → first < n → (v : List ℕ) → IsOutsideNear whole holes met v → IsInBoxBy (in_either (length within) by more) (box_flags within) v
        → Leaves (box_flags hole) first v → ⊥
    earlier first less v out on way =
        before.none first less v out
        (λ choice below flag.
        on choice below
        (flag_of (λ c. flag_at by c || flag_at more c) (length within) choice (let e = length-map within (λ choice. choice.items) in omega (arith, e, below))
        ∙ or_left (flag_at by choice) (flag_at more choice) flag)) way

    here : (v : List ℕ) → IsOutsideNear whole holes met v → IsInBoxBy (in_either (length within) by more) (box_flags within) v → Leaves (box_flags hole) n v → ⊥
    here v out on way =
        none v out
        (λ choice below flag.
        let less : choice < length (box_flags within) = let e = is.of_each in omega (arith, e, below) in
        let joins : flag_at (in_either (length within) by more) choice ≡ true =
        flag_of (λ c. flag_at by c || flag_at more c) (length within) choice (let e = length-map within (λ choice. choice.items) in omega (arith, e, less))
        ∙ or_right (flag_at by choice) (flag_at more choice) flag in
        is.has_these choice (slice_index v choice) less
        ∙ both_true (has_alternative (box_flags within) choice (slice_index v choice)) (is_behind (box_flags hole) n choice (slice_index v choice))
        (on choice less joins)
        (leaves_kept (box_flags hole) n v way choice))

  fewer_near : (near : List ℕ) → AreMet within holes near met → (v : List ℕ) → IsOutsideNear whole holes near v → IsOutsideNear whole holes met v
  fewer_near near same v out = record {
    in_box = out.in_box;
    in_none =
        ap (list_any (λ place. is_in_box (box_flags (hole_at holes place)) v)) same
        ∙ filter_none (λ place. is_in_box (box_flags (hole_at holes place)) v) (λ place. is_met within (hole_at holes place)) near out.in_none;
  }

  -- a part that is empty by choices of which it is the box has no other part beside it
  pub none_by_part : (near : List ℕ) (more : List Bool) (first : ℕ) (part : List (Vec Bool Global)) → AreMet within holes near met
      → IsBoxPart (is_behind (box_flags hole) first) (box_flags within) (box_flags part) → IsNoneBy whole part holes met more
      → is_left_at (box_flags within) (box_flags hole) first ≡ true → is_by_leaving more within hole first ≡ false → IsNoneBy whole within holes near more
  none_by_part near more first part same is none left other v out on = none v (fewer_near near same v out) these where
    not_by : (choice : ℕ) → choice < length within → choice ≤ first → flag_at more choice ≡ true → is_left_at (box_flags within) (box_flags hole) choice ≡ false
    not_by choice below most flag =
        last_false (nat_le choice first) (flag_at more choice) (is_left_at (box_flags within) (box_flags hole) choice)
        (none_of (λ c. nat_le c first && (flag_at more c && is_left_at (box_flags within) (box_flags hole) c)) (length within) choice other below)
        (at_most_true choice first most) flag

    stays : (choice : ℕ) → choice < length within → flag_at more choice ≡ true → has_alternative (box_flags within) choice (slice_index v choice) ≡ true
        → is_behind (box_flags hole) first choice (slice_index v choice) ≡ true
    stays choice below flag has = elim (cases_order choice first) [
      | inl e ↦ absurd (false≢true (sym (not_by choice below (omega (arith, e)) flag) ∙ ap (is_left_at (box_flags within) (box_flags hole)) e ∙ left))
      | inr (inl less) ↦
          kept_before first choice (has_alternative (box_flags hole) choice (slice_index v choice)) less
          ∙ has_hole within choice (slice_index v choice) (not_by choice below (omega (arith, less)) flag) has
      | inr (inr behind) ↦ kept_behind first choice (has_alternative (box_flags hole) choice (slice_index v choice)) behind
    ]

    these : IsInBoxBy more (box_flags part) v
    these choice below flag =
        let e = is.of_each in
        let m = length-map within (λ choice. choice.items) in
        let less : choice < length (box_flags within) = omega (arith, e, below) in
        is.has_these choice (slice_index v choice) less
        ∙ both_true (has_alternative (box_flags within) choice (slice_index v choice)) (is_behind (box_flags hole) first choice (slice_index v choice))
        (on choice less flag)
        (stays choice (omega (arith, m, less)) flag (on choice less flag))

  -- a variant that leaves the hole by no choice is in it
  pub none_by_all : (near : List ℕ) (by : List Bool) (k n : ℕ) → AreMet within holes near met → length whole ≡ length within → is_met within hole ≡ true
      → k < length met → hole ≡ hole_at holes (slice_index met k) → length within ≤ n → IsNoneTo whole within hole holes met by n
      → IsNoneBy whole within holes near by
  none_by_all near by k n same alike meets below is all reported v out on =
      let w = length-map whole (λ choice. choice.items) in
      let m = length-map hole (λ choice. choice.items) in
      let long = within_length (box_flags whole) v out.in_box in
      let sizes = met_length within hole meets in
      let less_out = fewer_near near same v out in
      let not_in : is_in_box (box_flags hole) v ≡ false =
      ap (λ h. is_in_box (box_flags h) v) is ∙ any_at (λ place. is_in_box (box_flags (hole_at holes place)) v) met k less_out.in_none below in
      let (first, less, way) = leaves (box_flags hole) v (omega (arith, w, m, long, sizes, alike)) not_in in
      reported.none first (omega (arith, m, sizes, less, all)) v less_out on way

-- of the whole box itself
pub none_by_whole : (within : List (Vec Bool Global)) (holes : List (Vec (Vec Bool Global) Global)) (near : List ℕ) (by : List Bool)
    → IsNoneBy within within holes near by → HasNoneOutside within holes near
none_by_whole within holes near by none v out = none v out (λ choice below flag. within_at (box_flags within) v out.in_box choice below)
