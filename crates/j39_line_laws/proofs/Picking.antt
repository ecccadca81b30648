-- Of two lists of flags what the fewer pick is some of what the others pick.
use Rattle.std.proofs.Common.{◌≡◌, ℕ, zero, suc, ◌+◌, ◌<◌, Bool, true, false, ◌&&◌, List, [], ◌∷◌, Option, Some, None, is_some, refl, sym, ◌∙◌, ap, subst}
use Rattle.std.proofs.Common.{arith}
use Rattle.std.specs.List.{AllZip, cons_option, filter_map, slice_get}
use Rattle.std.proofs.lemmas.Bool.{false≢true}
use Rattle.std.proofs.lemmas.Option.{none-some, same_Some}
use Rattle.j39_search.specs.ListPlaces.{ValueAt}
use Rattle.j39_variants.specs.VariantPlans.{picked, place_at, places}
use Rattle.j39_part_laws.specs.PlanParts.{AreSome, IsSame}
use Rattle.j39_part_laws.proofs.Places.{no_value}
use Rattle.j39_line_laws.proofs.VariantBoxes.{AreFewer}

-- where what is picked by the first flags stands among what is picked by the second
abbrev pub thin : List Bool → List Bool → ℕ → ℕ
thin [] cs i = i
thin (b ∷ bs) [] i = i
thin (true ∷ bs) (true ∷ cs) zero = zero
thin (true ∷ bs) (true ∷ cs) (suc i) = suc (thin bs cs i)
thin (true ∷ bs) (false ∷ cs) i = thin bs cs i
thin (false ∷ bs) (true ∷ cs) i = suc (thin bs cs i)
thin (false ∷ bs) (false ∷ cs) i = thin bs cs i

pub thin_rises : (bs cs : List Bool) (i j : ℕ) → i < j → thin bs cs i < thin bs cs j
thin_rises [] cs i j below = below
thin_rises (b ∷ bs) [] i j below = below
thin_rises (true ∷ bs) (true ∷ cs) i zero below = absurd (omega (arith, below))
thin_rises (true ∷ bs) (true ∷ cs) zero (suc j) below = omega arith
thin_rises (true ∷ bs) (true ∷ cs) (suc i) (suc j) below = let rest = thin_rises bs cs i j (omega (arith, below)) in omega (arith, rest)
thin_rises (true ∷ bs) (false ∷ cs) i j below = thin_rises bs cs i j below
thin_rises (false ∷ bs) (true ∷ cs) i j below = let rest = thin_rises bs cs i j below in omega (arith, rest)
thin_rises (false ∷ bs) (false ∷ cs) i j below = thin_rises bs cs i j below

-- ---- what is picked

behind : {Y : Type 0} (P : Y → Type 0) (z : Y) (zs : List Y) (k : ℕ) → ValueAt P zs k → ValueAt P (z ∷ zs) (suc k)
behind P z zs k at = record { value = at.value; value_is = at.value_is; meets = at.meets }

step : {Y : Type 0} (R : Y → Y → Type 0) (o q : Option Y) → ((y : Y) → o ≡ Some y → (z : Y) × (q ≡ Some z) × R y z) → (ls rs : List Y) (ks ms : List Bool)
    → ((i : ℕ) (y : Y) → slice_get ls i ≡ Some y → ValueAt (R y) rs (thin ks ms i)) → (i : ℕ) (y : Y) → slice_get (cons_option o ls) i ≡ Some y
    → ValueAt (R y) (cons_option q rs) (thin (is_some o ∷ ks) (is_some q ∷ ms) i)
step R None None leads ls rs ks ms rest i y at = rest i y at
step R None (Some z) leads ls rs ks ms rest i y at = behind (R y) z rs (thin ks ms i) (rest i y at)
step R (Some x) None leads ls rs ks ms rest i y at = let (z, none, stands) = leads x refl in absurd (none-some z none)
step R (Some x) (Some w) leads ls rs ks ms rest zero y at =
    let (z, same, stands) = leads x refl in
    record { value = w; value_is = refl; meets = subst (R y) (sym (same_Some w z same)) (subst (λ a. R a z) (same_Some x y at) stands) }
step R (Some x) (Some w) leads ls rs ks ms rest (suc i) y at = behind (R y) w rs (thin ks ms i) (rest i y at)

same_value : {X : Type 0} (x y : X) → Some x ≡ Some y → (z : X) × (Some x ≡ Some z) × (y ≡ z)
same_value x y is = (y, is, refl)

each_picked : {X : Type 0} (bs cs : List Bool) (xs : List X) → AreFewer bs cs → (i : ℕ) (x : X) → slice_get (picked bs xs) i ≡ Some x
    → ValueAt (IsSame x) (picked cs xs) (thin bs cs i)
each_picked [] cs xs fewer i x at = absurd (no_value i x at)
each_picked (b ∷ bs) [] xs fewer i x at = absurd fewer
each_picked (b ∷ bs) (c ∷ cs) [] fewer i x at = absurd (no_value i x at)
each_picked (true ∷ bs) (false ∷ cs) (y ∷ ys) fewer i x at = absurd (false≢true (fewer.0 refl))
each_picked (true ∷ bs) (true ∷ cs) (y ∷ ys) fewer i x at =
    step IsSame (Some y) (Some y) (same_value y) (picked bs ys) (picked cs ys) bs cs (each_picked bs cs ys fewer.1) i x at
each_picked (false ∷ bs) (true ∷ cs) (y ∷ ys) fewer i x at =
    step IsSame None (Some y) (λ z none. absurd (none-some z none)) (picked bs ys) (picked cs ys) bs cs (each_picked bs cs ys fewer.1) i x at
each_picked (false ∷ bs) (false ∷ cs) (y ∷ ys) fewer i x at = each_picked bs cs ys fewer.1 i x at

pub some_picked : {X : Type 0} (bs cs : List Bool) (xs : List X) → AreFewer bs cs → AreSome (thin bs cs) IsSame (picked bs xs) (picked cs xs)
some_picked bs cs xs fewer = record { rises = thin_rises bs cs; each = each_picked bs cs xs fewer }

-- ---- what comes of those picked

-- which of the values that are picked something comes of
abbrev pub kept : {X Y : Type 0} → (X → Option Y) → List Bool → List X → List Bool
kept f [] xs = []
kept f (b ∷ bs) [] = []
kept f (b ∷ bs) (x ∷ xs) = (b && is_some (f x)) ∷ kept f bs xs

module _ {X Y : Type 0} (R : Y → Y → Type 0) (f g : X → Option Y) (leads : (x : X) (y : Y) → f x ≡ Some y → (z : Y) × (g x ≡ Some z) × R y z) where
  each_kept : (bs cs : List Bool) (xs : List X) → AreFewer bs cs → (i : ℕ) (y : Y) → slice_get (filter_map f (picked bs xs)) i ≡ Some y
      → ValueAt (R y) (filter_map g (picked cs xs)) (thin (kept f bs xs) (kept g cs xs) i)
  each_kept [] cs xs fewer i y at = absurd (no_value i y at)
  each_kept (b ∷ bs) [] xs fewer i y at = absurd fewer
  each_kept (b ∷ bs) (c ∷ cs) [] fewer i y at = absurd (no_value i y at)
  each_kept (true ∷ bs) (false ∷ cs) (x ∷ xs) fewer i y at = absurd (false≢true (fewer.0 refl))
  each_kept (true ∷ bs) (true ∷ cs) (x ∷ xs) fewer i y at =
      step R (f x) (g x) (leads x) (filter_map f (picked bs xs)) (filter_map g (picked cs xs)) (kept f bs xs) (kept g cs xs) (each_kept bs cs xs fewer.1) i y at
  each_kept (false ∷ bs) (true ∷ cs) (x ∷ xs) fewer i y at =
      step R None (g x) (λ z none. absurd (none-some z none)) (filter_map f (picked bs xs)) (filter_map g (picked cs xs)) (kept f bs xs) (kept g cs xs)
      (each_kept bs cs xs fewer.1) i y at
  each_kept (false ∷ bs) (false ∷ cs) (x ∷ xs) fewer i y at = each_kept bs cs xs fewer.1 i y at

  pub some_kept : (bs cs : List Bool) (xs : List X) → AreFewer bs cs
      → AreSome (thin (kept f bs xs) (kept g cs xs)) R (filter_map f (picked bs xs)) (filter_map g (picked cs xs))
  some_kept bs cs xs fewer = record { rises = thin_rises (kept f bs xs) (kept g cs xs); each = each_kept bs cs xs fewer }

-- ---- copies

-- the value and its copy at a place
pub record IsCopied {X : Type 0} (C : X → X → Type 0) (xs : List X) (i : ℕ) (copy : X) : Type 0 where
  pub value : X
  pub value_is : slice_get xs i ≡ Some value
  pub copies : C value copy

pub copy_of : {X : Type 0} (C : X → X → Type 0) (xs ys : List X) → AllZip C xs ys → (i : ℕ) (y : X) → slice_get ys i ≡ Some y → IsCopied C xs i y
copy_of C [] [] zip i y at = absurd (no_value i y at)
copy_of C [] (z ∷ ys) zip i y at = absurd zip
copy_of C (x ∷ xs) [] zip i y at = absurd zip
copy_of C (x ∷ xs) (z ∷ ys) zip zero y at = record { value = x; value_is = refl; copies = subst (C x) (same_Some z y at) zip.0 }
copy_of C (x ∷ xs) (z ∷ ys) zip (suc i) y at =
    let its = copy_of C xs ys zip.1 i y at in record { value = its.value; value_is = its.value_is; copies = its.copies }

pub its_copy : {X : Type 0} (C : X → X → Type 0) (xs ys : List X) → AllZip C xs ys → (i : ℕ) (x : X) → slice_get xs i ≡ Some x → ValueAt (C x) ys i
its_copy C [] ys zip i x at = absurd (no_value i x at)
its_copy C (z ∷ xs) [] zip i x at = absurd zip
its_copy C (z ∷ xs) (y ∷ ys) zip zero x at = record { value = y; value_is = refl; meets = subst (λ a. C a y) (same_Some z x at) zip.0 }
its_copy C (z ∷ xs) (y ∷ ys) zip (suc i) x at = behind (C x) y ys i (its_copy C xs ys zip.1 i x at)

-- copies of some values are some of the copies of all
pub some_copied : {X : Type 0} (C R : X → X → Type 0) → ((x y z : X) → C x y → C x z → R y z) → (place : ℕ → ℕ) (xs ys ps qs : List X)
    → AreSome place IsSame xs ys → AllZip C xs ps → AllZip C ys qs → AreSome place R ps qs
some_copied {X = X} C R over place xs ys ps qs are zip also = record { rises = are.rises; each = each }
  where
    each : (i : ℕ) (p : X) → slice_get ps i ≡ Some p → ValueAt (R p) qs (place i)
    each i p at =
        let its = copy_of C xs ps zip i p at in
        let there = are.each i its.value its.value_is in
        let copy = its_copy C ys qs also (place i) there.value there.value_is in
        record {
          value = copy.value;
          value_is = copy.value_is;
          meets = over its.value p copy.value its.copies (subst (λ x. C x copy.value) (sym there.meets) copy.meets);
        }

-- ---- places of what is named

pub record IsPlaceThere (bs cs : List Bool) (n m i p : ℕ) : Type 0 where
  pub k : ℕ
  pub here : p ≡ n + k
  pub there : place_at (places m cs) i ≡ Some (m + thin bs cs k)

place_from : (bs cs : List Bool) → AreFewer bs cs → (n m i p : ℕ) → place_at (places n bs) i ≡ Some p → IsPlaceThere bs cs n m i p
place_from [] cs fewer n m zero p at = cc
place_from [] cs fewer n m (suc i) p at = cc
place_from (b ∷ bs) [] fewer n m i p at = absurd fewer
place_from (true ∷ bs) (false ∷ cs) fewer n m i p at = absurd (false≢true (fewer.0 refl))
place_from (true ∷ bs) (true ∷ cs) fewer n m zero p at =
    let same : n ≡ p = same_Some n p at in
    record { k = 0; here = omega (arith, same); there = ap Some (let e : m ≡ m + 0 = omega arith in e) }
place_from (true ∷ bs) (true ∷ cs) fewer n m (suc i) p at =
    let its = place_from bs cs fewer.1 (n + 1) (m + 1) i p at in
    let here = its.here in
    record {
      k = suc its.k;
      here = omega (arith, here);
      there = its.there ∙ ap Some (let e : m + 1 + thin bs cs its.k ≡ m + suc (thin bs cs its.k) = omega arith in e);
    }
place_from (false ∷ bs) (true ∷ cs) fewer n m zero p at = absurd (none-some p at)
place_from (false ∷ bs) (true ∷ cs) fewer n m (suc i) p at =
    let its = place_from bs cs fewer.1 n (m + 1) i p at in
    record {
      k = its.k;
      here = its.here;
      there = its.there ∙ ap Some (let e : m + 1 + thin bs cs its.k ≡ m + suc (thin bs cs its.k) = omega arith in e);
    }
place_from (false ∷ bs) (false ∷ cs) fewer n m zero p at = absurd (none-some p at)
place_from (false ∷ bs) (false ∷ cs) fewer n m (suc i) p at =
    let its = place_from bs cs fewer.1 n m i p at in record { k = its.k; here = its.here; there = its.there }

pub place_there : (bs cs : List Bool) → AreFewer bs cs → (i p : ℕ) → place_at (places 0 bs) i ≡ Some p → place_at (places 0 cs) i ≡ Some (thin bs cs p)
place_there bs cs fewer i p at =
    let its = place_from bs cs fewer 0 0 i p at in
    let here : its.k ≡ p = let e = its.here in omega (arith, e) in
    its.there ∙ ap Some (let e : 0 + thin bs cs its.k ≡ thin bs cs its.k = omega arith in e) ∙ ap (λ k. Some (thin bs cs k)) here
