-- The place in the plan of a variant of what stands at a place of the file.
use Rattle.std.proofs.Common.{◌≡◌, ℕ, zero, suc, ◌+◌, ◌<◌, ◌==◌, Bool, true, false, not, cond, get_or, List, [], ◌∷◌, length, filter, Option, Some, None}
use Rattle.std.proofs.Common.{is_some, refl, sym, ◌∙◌, ap, subst, arith}
use Rattle.std.specs.List.{cons_option, filter_map, position_or_len, slice_get}
use Rattle.std.proofs.lemmas.Bool.{eq-eqb, eqb-true, lt-ltb}
use Rattle.std.proofs.lemmas.List.Quantifiers.{position-Some}
use Rattle.std.proofs.lemmas.Option.{same_Some, slice_get-get_or}
use Rattle.j39_variants.specs.VariantPlans.{picked}
use Rattle.j39_line_bounds.specs.LineTimes.{place_in_variant}
use Rattle.j39_part_laws.proofs.Places.{no_value}
use Rattle.j39_line_laws.proofs.Picking.{kept}

-- ---- by its place

before_end : (test : ℕ → Bool) (xs : List ℕ) (j k : ℕ) → slice_get xs j ≡ Some k → test k ≡ true → position_or_len test xs < length xs
before_end test [] j k at passes = absurd (no_value j k at)
before_end test (x ∷ xs) zero k at passes =
    subst (λ b. cond (not b) (1 + position_or_len test xs) 0 < suc (length xs)) (sym (ap test (same_Some x k at) ∙ passes)) (omega arith)
before_end test (x ∷ xs) (suc j) k at passes = by (test x) (before_end test xs j k at passes)
  where
    by : (b : Bool) → position_or_len test xs < length xs → cond (not b) (1 + position_or_len test xs) 0 < suc (length xs)
    by true rest = omega arith
    by false rest = omega (arith, rest)

-- what is found stands there
pub found_at : (places : List ℕ) (i k : ℕ) → place_in_variant places k ≡ Some i → slice_get places i ≡ Some k
found_at places i k is =
    let (below, passes, others) = position-Some (λ place. place == k) places i 0 is in
    slice_get-get_or places i 0 below ∙ ap Some (eqb-true (get_or places i 0) k passes)

-- and what stands there is found
pub is_found_at : (places : List ℕ) (j k : ℕ) → slice_get places j ≡ Some k → (i : ℕ) × (place_in_variant places k ≡ Some i) × (slice_get places i ≡ Some k)
is_found_at places j k at =
    let i = position_or_len (λ place. place == k) places in
    let below = before_end (λ place. place == k) places j k at (eq-eqb k k refl) in
    let found : place_in_variant places k ≡ Some i = ap (λ b. cond b (Some i) None) (lt-ltb i (length places) below) in
    (i, found, found_at places i k found)

-- ---- what comes of what is picked

pub made_at : {X Y Z : Type 0} (f : X → Option Y) (bs : List Bool) (xs : List X) (zs : List Z) → length xs ≡ length zs → (i : ℕ) (z : Z)
    → slice_get (picked (kept f bs xs) zs) i ≡ Some z → (y : Y) × (slice_get (filter_map f (picked bs xs)) i ≡ Some y)
made_at f [] xs zs same i z at = absurd (no_value i z at)
made_at f (b ∷ bs) [] zs same i z at = absurd (no_value i z at)
made_at f (b ∷ bs) (x ∷ xs) [] same i z at = absurd (no_value i z at)
made_at f (false ∷ bs) (x ∷ xs) (y ∷ zs) same i z at = made_at f bs xs zs (omega (arith, same)) i z at
made_at {Y = Y} {Z = Z} f (true ∷ bs) (x ∷ xs) (y ∷ zs) same i z at = by (f x) (λ n found. made_at f bs xs zs (omega (arith, same)) n z found) i at
  where
    by : (o : Option Y) → ((n : ℕ) → slice_get (picked (kept f bs xs) zs) n ≡ Some z → (w : Y) × (slice_get (filter_map f (picked bs xs)) n ≡ Some w))
        → (n : ℕ) → slice_get (picked (is_some o ∷ kept f bs xs) (y ∷ zs)) n ≡ Some z → (w : Y)
        × (slice_get (cons_option o (filter_map f (picked bs xs))) n ≡ Some w)
    by None rest n found = rest n found
    by (Some w) rest zero found = (w, refl)
    by (Some w) rest (suc n) found = rest n found

-- what stands among those that pass a test passes it
pub passes_test : {X : Type 0} (test : X → Bool) (xs : List X) (i : ℕ) (x : X) → slice_get (filter test xs) i ≡ Some x → test x ≡ true
passes_test test [] i x at = absurd (no_value i x at)
passes_test {X = X} test (y ∷ ys) i x at = by (test y) refl i at (λ k found. passes_test test ys k x found)
  where
    by : (b : Bool) → test y ≡ b → (k : ℕ) → slice_get (cond b (y ∷ filter test ys) (filter test ys)) k ≡ Some x
        → ((n : ℕ) → slice_get (filter test ys) n ≡ Some x → test x ≡ true) → test x ≡ true
    by true is_b zero found rest = ap test (sym (same_Some y x found)) ∙ is_b
    by true is_b (suc k) found rest = rest k found
    by false is_b k found rest = rest k found
