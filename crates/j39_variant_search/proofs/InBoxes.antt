-- Flags of choices, and variants in boxes.
use Rattle.std.proofs.Common.{◌≡◌, ℕ, zero, suc, ◌+◌, ◌<◌, ◌==◌, List, [], ◌∷◌, Bool, true, false, ◌&&◌, ◌||◌, not, length, map, refl, sym, ap, ◌∙◌, arith}
use Rattle.std.proofs.Common.{rules}
use Rattle.std.specs.declared.alloc.Global.{Global}
use Rattle.std.specs.Prelude.{Vec, filter, slice_index}
use Rattle.std.specs.List.{enumerate_from, list_all, list_any, range_with_len}
use Rattle.std.proofs.lemmas.Bool.{false≢true, and_parts, or_parts, eqb-true}
use Rattle.std.proofs.lemmas.List.{length-map}
use Rattle.j39_variants.specs.VariantPlans.{flag_at}
use Rattle.j39_variant_search.specs.inside.BoxParts.{are_common, flags_at, flags_with, has_alternative, is_empty_box, is_left, is_met, is_common}
use Rattle.j39_variant_search.specs.VariantSearch.{box_flags, is_in_box}

pub both_true : (a b : Bool) → a ≡ true → b ≡ true → (a && b) ≡ true
both_true true b is also = also
both_true false b is also = is

-- ---- tests of lists

pub any_at : (test : ℕ → Bool) (xs : List ℕ) (k : ℕ) → list_any test xs ≡ false → k < length xs → test (slice_index xs k) ≡ false
any_at test [] k none below = absurd (omega arith)
any_at test (x ∷ xs) zero none below = (or_parts (test x) (list_any test xs) none).0
any_at test (x ∷ xs) (suc k) none below = any_at test xs k (or_parts (test x) (list_any test xs) none).1 (omega arith)

none_any : (test : ℕ → Bool) (xs : List ℕ) → ((k : ℕ) → k < length xs → test (slice_index xs k) ≡ false) → list_any test xs ≡ false
none_any test [] none = refl
none_any test (x ∷ xs) none = either_false (test x) (list_any test xs) (none 0 (omega arith)) (none_any test xs (λ k below. none (suc k) (omega arith))) where
  either_false : (a b : Bool) → a ≡ false → b ≡ false → (a || b) ≡ false
  either_false true b is also = is
  either_false false b is also = also

-- a test that none passes of those left out answers alike
pub filter_any : (test kept : ℕ → Bool) (xs : List ℕ) → ((x : ℕ) → kept x ≡ false → test x ≡ false) → list_any test (filter kept xs) ≡ list_any test xs
filter_any test kept [] out = refl
filter_any test kept (x ∷ xs) out = go (kept x) refl (filter_any test kept xs out) where
  go : (b : Bool) → kept x ≡ b → list_any test (filter kept xs) ≡ list_any test xs → list_any test (filter kept (x ∷ xs)) ≡ list_any test (x ∷ xs)
  go true is rest = rw is (ap (λ b. test x || b) rest)
  go false is rest = rw (is, out x is) rest

pub filter_none : (test kept : ℕ → Bool) (xs : List ℕ) → list_any test xs ≡ false → list_any test (filter kept xs) ≡ false
filter_none test kept [] none = none
filter_none test kept (x ∷ xs) none =
    let parts = or_parts (test x) (list_any test xs) none in
    go (kept x) refl parts.0 (filter_none test kept xs parts.1) where
      go : (b : Bool) → kept x ≡ b → test x ≡ false → list_any test (filter kept xs) ≡ false → list_any test (filter kept (x ∷ xs)) ≡ false
      go true is here rest = rw (is, here) rest
      go false is here rest = rw is rest

pub filter_at : (kept : ℕ → Bool) (xs : List ℕ) (k : ℕ) → k < length (filter kept xs) → kept (slice_index (filter kept xs) k) ≡ true
filter_at kept [] k below = absurd (omega arith)
filter_at kept (x ∷ xs) k below = go (kept x) refl (λ j less. filter_at kept xs j less) k below where
  go : (b : Bool) → kept x ≡ b → ((j : ℕ) → j < length (filter kept xs) → kept (slice_index (filter kept xs) j) ≡ true) → (k : ℕ)
      → k < length (filter kept (x ∷ xs)) → kept (slice_index (filter kept (x ∷ xs)) k) ≡ true
  go true is rest zero below = rw (is, is) refl
  go true is rest (suc k) below = let less : suc k < length (x ∷ filter kept xs) = rw is at below in rw is (rest k (omega (arith, less)))
  go false is rest k below = let less : k < length (filter kept xs) = rw is at below in rw is (rest k less)

-- ---- choices

-- an alternative that both choices have
shared : (one other : List Bool) → is_common one other ≡ true → (place : ℕ) × (flag_at one place ≡ true) × (flag_at other place ≡ true)
shared [] other is = absurd (false≢true is)
shared (a ∷ one) [] is = absurd (false≢true is)
shared (true ∷ one) (true ∷ other) is = (0, refl, refl)
shared (true ∷ one) (false ∷ other) is = let (place, here, there) = shared one other is in (suc place, here, there)
shared (false ∷ one) (b ∷ other) is = let (place, here, there) = shared one other is in (suc place, here, there)

not_shared : (one other : List Bool) (place : ℕ) → is_common one other ≡ false → flag_at one place ≡ true → flag_at other place ≡ true → ⊥
not_shared [] other place none here there = false≢true here
not_shared (a ∷ one) [] place none here there = false≢true there
not_shared (a ∷ one) (b ∷ other) zero none here there = false≢true (sym (or_parts (a && b) (is_common one other) none).0 ∙ both_true a b here there)
not_shared (a ∷ one) (b ∷ other) (suc place) none here there = not_shared one other place (or_parts (a && b) (is_common one other) none).1 here there

not_left_from : (n : ℕ) (one other : List Bool) (place : ℕ) → list_any (λ at. at.1 && not (flag_at other at.0)) (enumerate_from n one) ≡ false
    → flag_at one place ≡ true → flag_at other (n + place) ≡ true
not_left_from n [] other place none here = absurd (false≢true here)
not_left_from n (true ∷ one) other zero none here =
    let e : n + 0 ≡ n = omega arith in
    rw e (holds (flag_at other n) (or_parts (not (flag_at other n))
    (list_any (λ at. at.1 && not (flag_at other at.0)) (enumerate_from (n + 1) one)) none).0) where
      holds : (b : Bool) → not b ≡ false → b ≡ true
      holds true is = refl
      holds false is = absurd (false≢true (sym is))
not_left_from n (false ∷ one) other zero none here = absurd (false≢true here)
not_left_from n (a ∷ one) other (suc place) none here =
    let e : n + suc place ≡ n + 1 + place = omega arith in
    rw e
    (not_left_from (n + 1) one other place
    (or_parts (a && not (flag_at other n)) (list_any (λ at. at.1 && not (flag_at other at.0)) (enumerate_from (n + 1) one)) none).1 here)

-- the second choice has what the first one has
pub not_left : (one other : List Bool) (place : ℕ) → is_left one other ≡ false → flag_at one place ≡ true → flag_at other place ≡ true
not_left one other place none here = let e : 0 + place ≡ place = omega arith in rw e at (not_left_from 0 one other place none here)

with_from : (test : ℕ → Bool) (n : ℕ) (flags : List Bool) (place : ℕ)
    → flag_at (map (λ at. at.1 && test at.0) (enumerate_from n flags)) place ≡ (flag_at flags place && test (n + place))
with_from test n [] place = refl
with_from test n (a ∷ flags) zero = let e : n + 0 ≡ n = omega arith in rw e refl
with_from test n (a ∷ flags) (suc place) = let e : n + suc place ≡ n + 1 + place = omega arith in rw e (with_from test (n + 1) flags place)

pub flag_with : (test : ℕ → Bool) (flags : List Bool) (place : ℕ) → flag_at (flags_with test flags) place ≡ (flag_at flags place && test place)
flag_with test flags place = let e : 0 + place ≡ place = omega arith in rw e at (with_from test 0 flags place)

-- ---- variants in boxes

pub within_length : (within : List (List Bool)) (v : List ℕ) → is_in_box within v ≡ true → length v ≡ length within
within_length [] [] is = refl
within_length [] (p ∷ v) is = absurd (false≢true is)
within_length (f ∷ within) [] is = absurd (false≢true is)
within_length (f ∷ within) (p ∷ v) is = let rest = within_length within v (and_parts (flag_at f p) (is_in_box within v) is).1 in omega (arith, rest)

pub within_at : (within : List (List Bool)) (v : List ℕ) → is_in_box within v ≡ true → (k : ℕ) → k < length within
    → has_alternative within k (slice_index v k) ≡ true
within_at [] v is k below = absurd (omega arith)
within_at (f ∷ within) [] is k below = absurd (false≢true is)
within_at (f ∷ within) (p ∷ v) is zero below = (and_parts (flag_at f p) (is_in_box within v) is).0
within_at (f ∷ within) (p ∷ v) is (suc k) below = within_at within v (and_parts (flag_at f p) (is_in_box within v) is).1 k (omega arith)

pub within_from : (within : List (List Bool)) (v : List ℕ) → length v ≡ length within
    → ((k : ℕ) → k < length within → has_alternative within k (slice_index v k) ≡ true) → is_in_box within v ≡ true
within_from [] [] same has = refl
within_from [] (p ∷ v) same has = absurd (omega arith)
within_from (f ∷ within) [] same has = absurd (omega arith)
within_from (f ∷ within) (p ∷ v) same has =
    both_true (flag_at f p) (is_in_box within v) (has 0 (omega arith)) (within_from within v (omega arith) (λ k below. has (suc k) (omega arith)))

pub no_flag : (flags : List Bool) (place : ℕ) → list_any (λ flag. flag) flags ≡ false → flag_at flags place ≡ true → ⊥
no_flag [] place none here = false≢true here
no_flag (a ∷ flags) zero none here = false≢true (sym (or_parts a (list_any (λ flag. flag) flags) none).0 ∙ here)
no_flag (a ∷ flags) (suc place) none here = no_flag flags place (or_parts a (list_any (λ flag. flag) flags) none).1 here

some_flag : (flags : List Bool) → list_any (λ flag. flag) flags ≡ true → (place : ℕ) × (flag_at flags place ≡ true)
some_flag [] is = absurd (false≢true is)
some_flag (true ∷ flags) is = (0, refl)
some_flag (false ∷ flags) is = let (place, here) = some_flag flags is in (suc place, here)

pub empty_none : (within : List (Vec Bool Global)) (v : List ℕ) → is_empty_box within ≡ true → is_in_box (box_flags within) v ≡ true → ⊥
empty_none [] v is inside = false≢true is
empty_none (f ∷ within) [] is inside = false≢true inside
empty_none (f ∷ within) (p ∷ v) is inside =
    let parts = and_parts (flag_at f.items p) (is_in_box (box_flags within) v) inside in
    go (list_any (λ flag. flag) f.items) refl parts.0 (λ rest. empty_none within v rest parts.1) where
      go : (b : Bool) → list_any (λ flag. flag) f.items ≡ b → flag_at f.items p ≡ true → (is_empty_box within ≡ true → ⊥) → ⊥
      go true some here rest = rest (rw some at is)
      go false none here rest = no_flag f.items p none here

pub some_within : (within : List (Vec Bool Global)) → is_empty_box within ≡ false → (v : List ℕ) × (is_in_box (box_flags within) v ≡ true)
some_within [] is = ([], refl)
some_within (f ∷ within) is = go (list_any (λ flag. flag) f.items) refl (λ full. some_within within full) where
  go : (b : Bool) → list_any (λ flag. flag) f.items ≡ b → (is_empty_box within ≡ false → (v : List ℕ) × (is_in_box (box_flags within) v ≡ true))
      → (v : List ℕ) × (is_in_box (box_flags (f ∷ within)) v ≡ true)
  go true some rest =
      let (p, here) = some_flag f.items some in
      let (v, inside) = rest (rw some at is) in
      (p ∷ v, both_true (flag_at f.items p) (is_in_box (box_flags within) v) here inside)
  go false none rest = absurd (false≢true (sym (rw none at is)))

-- ---- boxes that meet

all_from : (test : ℕ → Bool) (a n k : ℕ) → list_all test (range_with_len a n) ≡ true → k < n → test (a + k) ≡ true
all_from test a zero k is below = absurd (omega arith)
all_from test a (suc n) zero is below = let e : a + 0 ≡ a = omega arith in rw e (and_parts (test a) (list_all test (range_with_len (a + 1) n)) is).0
all_from test a (suc n) (suc k) is below =
    let e : a + suc k ≡ a + 1 + k = omega arith in
    rw e (all_from test (a + 1) n k (and_parts (test a) (list_all test (range_with_len (a + 1) n)) is).1 (omega arith))

all_of : (test : ℕ → Bool) (a n : ℕ) → ((k : ℕ) → k < n → test (a + k) ≡ true) → list_all test (range_with_len a n) ≡ true
all_of test a zero holds = refl
all_of test a (suc n) holds =
    both_true (test a) (list_all test (range_with_len (a + 1) n))
    (let e : a + 0 ≡ a = omega arith in rw e at (holds 0 (omega arith)))
    (all_of test (a + 1) n (λ k below. let e : a + suc k ≡ a + 1 + k = omega arith in rw e at (holds (suc k) (omega arith))))

pub met_length : (within hole : List (Vec Bool Global)) → is_met within hole ≡ true → length within ≡ length hole
met_length within hole is = eqb-true (length within) (length hole) (and_parts (length within == length hole) (are_common within hole) is).0

pub met_at : (within hole : List (Vec Bool Global)) → is_met within hole ≡ true → (k : ℕ) → k < length within
    → (place : ℕ) × (has_alternative (box_flags within) k place ≡ true) × (has_alternative (box_flags hole) k place ≡ true)
met_at within hole is k below =
    shared (flags_at (box_flags within) k) (flags_at (box_flags hole) k)
    (let e : 0 + k ≡ k = omega arith in
    rw e at
    (all_from (λ choice. is_common (flags_at (box_flags within) choice) (flags_at (box_flags hole) choice)) 0 (length within) k
    (and_parts (length within == length hole) (are_common within hole) is).1 below))

share_all : (within hole : List (Vec Bool Global)) (v : List ℕ) → is_in_box (box_flags within) v ≡ true → is_in_box (box_flags hole) v ≡ true
    → length within ≡ length hole → (k : ℕ) → k < length within → is_common (flags_at (box_flags within) k) (flags_at (box_flags hole) k) ≡ true
share_all within hole v inside also same k below = go (is_common (flags_at (box_flags within) k) (flags_at (box_flags hole) k)) refl where
  go : (b : Bool) → is_common (flags_at (box_flags within) k) (flags_at (box_flags hole) k) ≡ b → is_common (flags_at (box_flags within) k)
      (flags_at (box_flags hole) k) ≡ true
  go true is = is
  go false none =
      let n = length-map within (λ choice. choice.items) in
      let m = length-map hole (λ choice. choice.items) in
      absurd
      (not_shared (flags_at (box_flags within) k) (flags_at (box_flags hole) k) (slice_index v k) none
      (within_at (box_flags within) v inside k (omega (arith, n)))
      (within_at (box_flags hole) v also k (omega (arith, m))))

pub eqb_same : (a b : ℕ) → a ≡ b → (a == b) ≡ true
eqb_same a b e = search rules

-- no variant is in both of two boxes that don't meet
pub not_met : (within hole : List (Vec Bool Global)) (v : List ℕ) → is_met within hole ≡ false → is_in_box (box_flags within) v ≡ true
    → is_in_box (box_flags hole) v ≡ false
not_met within hole v none inside = go (is_in_box (box_flags hole) v) refl where
  go : (b : Bool) → is_in_box (box_flags hole) v ≡ b → is_in_box (box_flags hole) v ≡ false
  go false is = is
  go true also =
      let n = length-map within (λ choice. choice.items) in
      let m = length-map hole (λ choice. choice.items) in
      let one = within_length (box_flags within) v inside in
      let other = within_length (box_flags hole) v also in
      let same : length within ≡ length hole = omega (arith, n, m, one, other) in
      absurd
      (false≢true
      (sym none
      ∙ both_true (length within == length hole) (are_common within hole) (eqb_same (length within) (length hole) same)
      (all_of (λ choice. is_common (flags_at (box_flags within) choice) (flags_at (box_flags hole) choice)) 0 (length within)
      (λ k below. let e : 0 + k ≡ k = omega arith in rw e (share_all within hole v inside also same k below)))))
