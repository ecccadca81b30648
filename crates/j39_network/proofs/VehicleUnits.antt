-- A plan and that of a vehicle, unit by unit.
use Rattle.std.proofs.Common.{◌≡◌, ◌≢◌, ℕ, zero, suc, ◌+◌, List, [], ◌∷◌, ◌++◌, Bool, Option, Some, None, cond, drop, refl, sym, ◌∙◌, ap, subst, inl, inr}
use Rattle.std.proofs.Common.{arith}
use Rattle.std.specs.List.{AllZip, count_by, slice_get}
use Rattle.std.proofs.lemmas.Bool.{false≢true}
use Rattle.std.proofs.lemmas.Option.{none-some, same_Some}
use Rattle.std.proofs.lemmas.List.Sums.{sum_by-cons}
use Rattle.j39_id.specs.Name.{is_arbitrary}
use Rattle.j39_network.specs.declared.plan.Plan.{Plan}
use Rattle.j39_network.specs.declared.plan.unit_plan.UnitPlan.{UnitPlan}
use Rattle.j39_search.specs.ListPlaces.{found_if, in_each, each, pairs}
use Rattle.j39_network.specs.Kinds.{AreDistinctUnits}
use Rattle.j39_network.specs.VehiclePlans.{IsBoxOf, IsVehicleOf}
use Rattle.j39_network.proofs.Boxes.{AreOrderedAlike, apart_at, same_choice, same_order}

-- ---- lists whose values stand in a relation, place by place

abbrev pub AreBoth : {A B : Type 0} → (A → B → Type 0) → Option A → Option B → Type 0
AreBoth R None None = Unit {0}
AreBoth R None (Some y) = ⊥
AreBoth R (Some x) None = ⊥
AreBoth R (Some x) (Some y) = R x y

pub both_at : {A B : Type 0} (R : A → B → Type 0) (xs : List A) (ys : List B) → AllZip R xs ys → (k : ℕ) → AreBoth R (slice_get xs k) (slice_get ys k)
both_at R [] [] all k = tt
both_at R [] (y ∷ ys) all k = absurd all
both_at R (x ∷ xs) [] all k = absurd all
both_at R (x ∷ xs) (y ∷ ys) all zero = all.0
both_at R (x ∷ xs) (y ∷ ys) all (suc k) = both_at R xs ys all.1 k

pub drop_alike : {A B : Type 0} (R : A → B → Type 0) (xs : List A) (ys : List B) → AllZip R xs ys → (k : ℕ) → AllZip R (drop k xs) (drop k ys)
drop_alike R xs ys all zero = all
drop_alike R [] [] all (suc k) = tt
drop_alike R [] (y ∷ ys) all (suc k) = absurd all
drop_alike R (x ∷ xs) [] all (suc k) = absurd all
drop_alike R (x ∷ xs) (y ∷ ys) all (suc k) = drop_alike R xs ys all.1 k

pub in_each_alike : {A B : Type 0} (R : A → A → Type 0) (f g : ℕ → A → List B) → ((i : ℕ) (x y : A) → R x y → g i y ≡ f i x)
    → (i : ℕ) (xs ys : List A) → AllZip R xs ys → in_each g i ys ≡ in_each f i xs
unfolding in_each
in_each_alike R f g same i [] [] all = refl
in_each_alike R f g same i [] (y ∷ ys) all = absurd all
in_each_alike R f g same i (x ∷ xs) [] all = absurd all
in_each_alike R f g same i (x ∷ xs) (y ∷ ys) all =
    ap (λ b. b ++ in_each g (i + 1) ys) (same i x y all.0) ∙ ap (λ b. f i x ++ b) (in_each_alike R f g same (i + 1) xs ys all.1)

pub each_alike : {A B : Type 0} (R : A → A → Type 0) (f g : A → Bool) → ((x y : A) → R x y → g y ≡ f x) → (make : ℕ → B)
    → (i : ℕ) (xs ys : List A) → AllZip R xs ys → each g make i ys ≡ each f make i xs
unfolding each
each_alike R f g same make i xs ys all =
    in_each_alike R (λ k x. found_if (f x) (make k)) (λ k x. found_if (g x) (make k)) (λ k x y is. ap (λ b. found_if b (make k)) (same x y is)) i xs ys all

pub pairs_alike : {A B : Type 0} (R : A → A → Type 0) (f : A → A → Bool) → ((x y v w : A) → R x y → R v w → f y w ≡ f x v) → (make : ℕ → ℕ → B)
    → (xs ys : List A) → AllZip R xs ys → pairs f make ys ≡ pairs f make xs
unfolding pairs
pairs_alike R f same make xs ys all =
    in_each_alike R (λ i x. each (f x) (make i) (i + 1) (drop (i + 1) xs)) (λ i x. each (f x) (make i) (i + 1) (drop (i + 1) ys))
    (λ i x y is. each_alike R (f x) (f y) (λ v w other. same x y v w is other) (make i) (i + 1) (drop (i + 1) xs) (drop (i + 1) ys)
    (drop_alike R xs ys all (i + 1)))
    0 xs ys all

pub count_alike : {A : Type 0} (R : A → A → Type 0) (f : A → Bool) → ((x y : A) → R x y → f y ≡ f x) → (xs ys : List A) → AllZip R xs ys
    → count_by f ys ≡ count_by f xs
count_alike R f same [] [] all = refl
count_alike R f same [] (y ∷ ys) all = absurd all
count_alike R f same (x ∷ xs) [] all = absurd all
count_alike R f same (x ∷ xs) (y ∷ ys) all =
    sum_by-cons (λ z. cond (f z) 1 0) y ys ∙ ap (λ b. cond b 1 0 + count_by f ys) (same x y all.0)
    ∙ ap (λ n. cond (f x) 1 0 + n) (count_alike R f same xs ys all.1) ∙ sym (sum_by-cons (λ z. cond (f z) 1 0) x xs)

-- ---- a unit and its box

module _ (u b : UnitPlan) (box : IsBoxOf u b) where
  pub box_chooses : is_arbitrary b.name ≡ is_arbitrary u.name
  box_chooses = sym (same_choice u.name b.name box.name.0)

-- ---- a plan and the plan of a vehicle

module _ (plan vehicle : Plan) (is : IsVehicleOf plan vehicle) (apart : AreDistinctUnits plan) where
  abbrev units : List UnitPlan
  units = plan.units.items

  abbrev boxes : List UnitPlan
  boxes = vehicle.units.items

  -- the box at a place is that of the unit there
  pub unit_of : (k : ℕ) (b : UnitPlan) → slice_get boxes k ≡ Some b → (u : UnitPlan) × (slice_get units k ≡ Some u) × IsBoxOf u b
  unit_of k b at = go (slice_get units k) (slice_get boxes k) refl at (both_at IsBoxOf units boxes is.boxes k) where
    go : (o p : Option UnitPlan) → slice_get units k ≡ o → p ≡ Some b → AreBoth IsBoxOf o p → (u : UnitPlan) × (slice_get units k ≡ Some u) × IsBoxOf u b
    go None None at_unit at_box both = absurd (none-some _ at_box)
    go None (Some c) at_unit at_box both = absurd both
    go (Some u) None at_unit at_box both = absurd both
    go (Some u) (Some c) at_unit at_box both =
        let P : UnitPlan → Type 0 = IsBoxOf u in
        (u, at_unit, subst P (same_Some _ _ at_box) both)

  -- boxes at two places have different NAMEs, ordered as those of their units
  pub ordered : (i j : ℕ) (u v b c : UnitPlan) → slice_get units i ≡ Some u → slice_get units j ≡ Some v → IsBoxOf u b → IsBoxOf v c → i ≢ j
      → AreOrderedAlike u v b c
  ordered i j u v b c first second one other differ = same_order u v b c (apart_at plan apart i j u v first second differ) one other

  pub boxes_apart : AreDistinctUnits vehicle
  boxes_apart i j pair =
      let one = unit_of i pair.first pair.first_is in
      let other = unit_of j pair.second pair.second_is in
      let differ : i ≢ j = λ same. let b = pair.below in absurd (omega (arith, b, same)) in
      let alike = ordered i j one.0 other.0 pair.first pair.second one.1 other.1 one.2 other.2 differ in
      elim pair.related.1 [
        | inl same ↦ alike.apart same
        | inr (inl any) ↦ false≢true (sym one.2.number ∙ any)
        | inr (inr any) ↦ false≢true (sym other.2.number ∙ any)
      ]
