-- At which addresses more than one unit is planned: as the arrays of a search report it, and as it is counted on the list of units.
use Rattle.std.proofs.Common.{◌≡◌, ◌≢◌, ℕ, zero, suc, [], ◌∷◌, ◌+◌, ◌<◌, arith, Bool, true, false, cond, ◌||◌, ◌==◌, List, length, get_or, set, replicate, refl}
use Rattle.std.proofs.Common.{sym, ap, ◌∙◌, subst, inl, inr, Some}
use Rattle.std.proofs.lemmas.Bool.{cases_Bool, cases_eq, true≢false}
use Rattle.std.proofs.lemmas.Bool.Decides.{Decides-eqb, Decides-ltb}
use Rattle.std.proofs.lemmas.List.{get_or-replicate, get_or-set_same, get_or-set_other, length-replicate, length-set}
use Rattle.std.proofs.lemmas.List.Sums.{sum_by-cons}
use Rattle.std.proofs.lemmas.Option.{none-some, same_Some, slice_get_within}
use Rattle.std.specs.Bool.{MatchBool}
use Rattle.std.specs.List.{count_by, slice_get}
use Rattle.j39_network.specs.declared.plan.unit_plan.UnitPlan.{UnitPlan}
use Rattle.j39_findings.specs.Found.{is_shared}
use Rattle.j39_search.specs.ListPlaces.{SomeMeets}
use Rattle.j39_findings.specs.Standing.{DecidesAtEach, AreTwoThere, IsPlannedThere}
use Rattle.j39_findings.proofs.WhoStays.{stated_by}

-- ---- what is planned at an address, of the first so many units

-- one more unit: its address is taken
pub taken : (units : List UnitPlan) (count : ℕ) (planned : List Bool) → DecidesAtEach (IsPlannedThere units count) planned
    → (unit : UnitPlan) → slice_get units count ≡ Some unit → DecidesAtEach (IsPlannedThere units (count + 1)) (set planned unit.address true)
taken units count planned old unit at =
    let place : unit.address < length planned = let size = old.size in omega (arith, size, unit.address_range) in
    record {
      size = length-set planned unit.address true ∙ old.size;
      each = λ a inside. elim (cases_eq a unit.address) [
        | inl same ↦
            subst (λ b. MatchBool b (IsPlannedThere units (count + 1) a) (¬ IsPlannedThere units (count + 1) a))
            (sym (ap (λ k. get_or (set planned unit.address true) k false) same ∙ get_or-set_same planned unit.address true false place))
            (count, unit, omega arith, at, sym same)
        | inr other ↦
            subst (λ b. MatchBool b (IsPlannedThere units (count + 1) a) (¬ IsPlannedThere units (count + 1) a))
            (sym (get_or-set_other planned unit.address a true false other))
            (as_before a other (get_or planned a false) (old.each a inside))
      ];
    }
  where
    as_before : (a : ℕ) → a ≢ unit.address → (b : Bool) → MatchBool b (IsPlannedThere units count a) (¬ IsPlannedThere units count a)
        → MatchBool b (IsPlannedThere units (count + 1) a) (¬ IsPlannedThere units (count + 1) a)
    as_before a other true (u, x, below, at_u, there) = (u, x, omega (arith, below), at_u, there)
    as_before a other false none = λ (u, x, below, at_u, there). elim (cases_eq u count) [
      | inl same ↦ other (sym there ∙ ap (λ (w : UnitPlan). w.address) (same_Some _ _ (sym at_u ∙ ap (slice_get units) same ∙ at)))
      | inr differ ↦ none (u, x, omega (arith, below, differ), at_u, there)
    ]

-- and it is shared, if it was taken before
pub shared_by_one_more : (units : List UnitPlan) (count : ℕ) (planned shared : List Bool) → DecidesAtEach (IsPlannedThere units count) planned
    → DecidesAtEach (AreTwoThere units count) shared → (unit : UnitPlan) → slice_get units count ≡ Some unit
    → DecidesAtEach (AreTwoThere units (count + 1)) (set shared unit.address (get_or shared unit.address false || get_or planned unit.address false))
shared_by_one_more units count planned shared taken old unit at =
    let value : Bool = get_or shared unit.address false || get_or planned unit.address false in
    let within : unit.address < 256 = omega (arith, unit.address_range) in
    let place : unit.address < length shared = let size = old.size in omega (arith, size, within) in
    record {
      size = length-set shared unit.address value ∙ old.size;
      each = λ a inside. elim (cases_eq a unit.address) [
        | inl same ↦
            subst (λ b. MatchBool b (AreTwoThere units (count + 1) a) (¬ AreTwoThere units (count + 1) a))
            (sym (ap (λ k. get_or (set shared unit.address value) k false) same ∙ get_or-set_same shared unit.address value false place))
            (subst (λ k. MatchBool value (AreTwoThere units (count + 1) k) (¬ AreTwoThere units (count + 1) k)) (sym same)
            (here (get_or shared unit.address false) (get_or planned unit.address false) (old.each unit.address within) (taken.each unit.address within)))
        | inr other ↦
            subst (λ b. MatchBool b (AreTwoThere units (count + 1) a) (¬ AreTwoThere units (count + 1) a))
            (sym (get_or-set_other shared unit.address a value false other))
            (as_before a other (get_or shared a false) (old.each a inside))
      ];
    }
  where
    more : (a : ℕ) → AreTwoThere units count a → AreTwoThere units (count + 1) a
    more a two = record {
      first = two.first;
      second = two.second;
      apart = two.apart;
      inside = let below = two.inside in omega (arith, below);
      one = two.one;
      one_is = two.one_is;
      one_there = two.one_there;
      other = two.other;
      other_is = two.other_is;
      other_there = two.other_there;
    }

    fewer : (a : ℕ) (two : AreTwoThere units (count + 1) a) → two.second ≢ count → AreTwoThere units count a
    fewer a two differ = record {
      first = two.first;
      second = two.second;
      apart = two.apart;
      inside = let below = two.inside in omega (arith, below, differ);
      one = two.one;
      one_is = two.one_is;
      one_there = two.one_there;
      other = two.other;
      other_is = two.other_is;
      other_there = two.other_there;
    }

    as_before : (a : ℕ) → a ≢ unit.address → (b : Bool) → MatchBool b (AreTwoThere units count a) (¬ AreTwoThere units count a)
        → MatchBool b (AreTwoThere units (count + 1) a) (¬ AreTwoThere units (count + 1) a)
    as_before a other true two = more a two
    as_before a other false none = λ two. elim (cases_eq two.second count) [
      | inl same ↦
          other (sym two.other_there
          ∙ ap (λ (w : UnitPlan). w.address) (same_Some _ _ (sym two.other_is ∙ ap (slice_get units) same ∙ at)))
      | inr differ ↦ none (fewer a two differ)
    ]

    here : (was there : Bool) → MatchBool was (AreTwoThere units count unit.address) (¬ AreTwoThere units count unit.address)
        → MatchBool there (IsPlannedThere units count unit.address) (¬ IsPlannedThere units count unit.address)
        → MatchBool (was || there) (AreTwoThere units (count + 1) unit.address) (¬ AreTwoThere units (count + 1) unit.address)
    here true there two one = more unit.address two
    here false true none (u, x, below, at_u, is) = record {
      first = u;
      second = count;
      apart = below;
      inside = omega arith;
      one = x;
      one_is = at_u;
      one_there = is;
      other = unit;
      other_is = at;
      other_there = refl;
    }
    here false false none nobody = λ two. elim (cases_eq two.second count) [
      | inl same ↦
          let below = two.apart in
          nobody (two.first, two.one, omega (arith, below, same), two.one_is, two.one_there)
      | inr differ ↦ none (fewer unit.address two differ)
    ]

none_stated : (There : ℕ → Type 0) → ((a : ℕ) → ¬ There a) → DecidesAtEach There (replicate 256 false)
none_stated There none = record {
  size = length-replicate {A = Bool} 256 false;
  each = λ a inside. subst (λ b. MatchBool b (There a) (¬ There a)) (sym (get_or-replicate 256 a false false inside)) (none a);
}

pub none_taken : (units : List UnitPlan) → DecidesAtEach (IsPlannedThere units 0) (replicate 256 false)
none_taken units = none_stated (IsPlannedThere units 0) (λ a (u, x, below, at_u, there). absurd (omega (arith, below)))

pub none_shared : (units : List UnitPlan) → DecidesAtEach (AreTwoThere units 0) (replicate 256 false)
none_shared units = none_stated (AreTwoThere units 0) (λ a two. let below = two.inside in absurd (omega (arith, below)))

-- ---- counted on the list

one_counted : (a : ℕ) (xs : List UnitPlan) → 0 < count_by (λ (x : UnitPlan). x.address == a) xs → SomeMeets (λ (x : UnitPlan). x.address ≡ a) xs
one_counted a [] some = absurd (omega (arith, some))
one_counted a (x ∷ xs) some = elim (cases_Bool (x.address == a)) [
  | inl is ↦ (0, record { value = x; value_is = refl; meets = (Decides-eqb x.address a).0 is })
  | inr other ↦
      let counted = sum_by-cons (λ (y : UnitPlan). cond (y.address == a) 1 0) x xs in
      let here = ap {B = ℕ} (λ b. cond b 1 0) other in
      let (i, v) = one_counted a xs (omega (arith, some, counted, here)) in
      (suc i, record { value = v.value; value_is = v.value_is; meets = v.meets })
]

counted_one : (a : ℕ) (xs : List UnitPlan) → SomeMeets (λ (x : UnitPlan). x.address ≡ a) xs → 0 < count_by (λ (x : UnitPlan). x.address == a) xs
counted_one a [] (i, v) = absurd (none-some _ v.value_is)
counted_one a (x ∷ xs) (zero, v) =
    let is : (x.address == a) ≡ true = (Decides-eqb x.address a).1 (ap (λ (w : UnitPlan). w.address) (same_Some _ _ v.value_is) ∙ v.meets) in
    let counted = sum_by-cons (λ (y : UnitPlan). cond (y.address == a) 1 0) x xs in
    let here = ap {B = ℕ} (λ b. cond b 1 0) is in
    omega (arith, counted, here)
counted_one a (x ∷ xs) (suc i, v) =
    let counted = sum_by-cons (λ (y : UnitPlan). cond (y.address == a) 1 0) x xs in
    let rest = counted_one a xs (i, record { value = v.value; value_is = v.value_is; meets = v.meets }) in
    omega (arith, counted, rest)

two_counted : (a : ℕ) (xs : List UnitPlan) → 1 < count_by (λ (x : UnitPlan). x.address == a) xs → AreTwoThere xs (length xs) a
two_counted a [] some = absurd (omega (arith, some))
two_counted a (x ∷ xs) some =
    let counted = sum_by-cons (λ (y : UnitPlan). cond (y.address == a) 1 0) x xs in
    elim (cases_Bool (x.address == a)) [
      | inl is ↦
          let here = ap {B = ℕ} (λ b. cond b 1 0) is in
          let (i, v) = one_counted a xs (omega (arith, some, counted, here)) in
          let inside = slice_get_within xs i v.value v.value_is in
          record {
            first = 0;
            second = suc i;
            apart = omega arith;
            inside = omega (arith, inside);
            one = x;
            one_is = refl;
            one_there = (Decides-eqb x.address a).0 is;
            other = v.value;
            other_is = v.value_is;
            other_there = v.meets;
          }
      | inr other ↦
          let here = ap {B = ℕ} (λ b. cond b 1 0) other in
          let two = two_counted a xs (omega (arith, some, counted, here)) in
          record {
            first = suc two.first;
            second = suc two.second;
            apart = let below = two.apart in omega (arith, below);
            inside = let below = two.inside in omega (arith, below);
            one = two.one;
            one_is = two.one_is;
            one_there = two.one_there;
            other = two.other;
            other_is = two.other_is;
            other_there = two.other_there;
          }
    ]

counted_two : (a : ℕ) (xs : List UnitPlan) (i j : ℕ) (x y : UnitPlan) → i < j → slice_get xs i ≡ Some x → slice_get xs j ≡ Some y
    → x.address ≡ a → y.address ≡ a → 1 < count_by (λ (z : UnitPlan). z.address == a) xs
counted_two a [] i j x y below first second one other = absurd (none-some _ second)
counted_two a (z ∷ zs) i zero x y below first second one other = absurd (omega (arith, below))
counted_two a (z ∷ zs) zero (suc j) x y below first second one other =
    let is : (z.address == a) ≡ true = (Decides-eqb z.address a).1 (ap (λ (w : UnitPlan). w.address) (same_Some _ _ first) ∙ one) in
    let counted = sum_by-cons (λ (w : UnitPlan). cond (w.address == a) 1 0) z zs in
    let here = ap {B = ℕ} (λ b. cond b 1 0) is in
    let rest = counted_one a zs (j, record { value = y; value_is = second; meets = other }) in
    omega (arith, counted, here, rest)
counted_two a (z ∷ zs) (suc i) (suc j) x y below first second one other =
    let counted = sum_by-cons (λ (w : UnitPlan). cond (w.address == a) 1 0) z zs in
    let rest = counted_two a zs i j x y (omega (arith, below)) first second one other in
    omega (arith, counted, rest)

pub shared_stated : (units : List UnitPlan) (a : ℕ)
    → MatchBool (is_shared units a) (AreTwoThere units (length units) a) (¬ AreTwoThere units (length units) a)
shared_stated units a =
    let decides = Decides-ltb 1 (count_by (λ (x : UnitPlan). x.address == a) units) in
    stated_by (is_shared units a) _ _ (λ is. two_counted a units (decides.0 is))
    (λ isnt two. true≢false (sym (decides.1 (counted_two a units two.first two.second two.one two.other two.apart two.one_is two.other_is
    two.one_there two.other_there)) ∙ isnt))
