-- Sums over elements of which each is taken once at most.
use Rattle.std.proofs.Common.{◌≡◌, ℕ, zero, suc, ◌+◌, ◌<◌, ◌≤◌, true, cond, ◌&&◌, eqb, List, [], ◌∷◌, length, get_or, sum_by, Option, Some, None}
use Rattle.std.proofs.Common.{refl, sym, ◌∙◌, subst, arith}
use Rattle.std.proofs.lemmas.Bool.{and_parts, eqb-true}
use Rattle.std.proofs.lemmas.List.Sums.{sum_by-cons}
use Rattle.std.specs.List.{cons_option, filter_map}
use Rattle.std.specs.Option.{option_map_or}
use Rattle.j39_timing.specs.Sums.{total}
use Rattle.j39_timing.proofs.AskedFrames.{all_grouped}
use Rattle.j39_timing.proofs.StreamSums.{at_most_one}
use Rattle.j39_timing.proofs.Sums.{total-le}

-- what is taken of places, none of them twice, is no more than all that stands at them
pub each_once : (n : ℕ) (place weight : ℕ → ℕ) (k : ℕ) (most : ℕ → ℕ) → ((i : ℕ) → i < n → place i < k) → ((i : ℕ) → i < n → weight i ≤ most (place i))
    → ((i j : ℕ) → i < n → j < n → place i ≡ place j → i ≡ j) → total n weight ≤ total k most
each_once n place weight k most below small own =
    let groups : total n weight ≤ total k (λ g. total n (λ i. cond (true && eqb (place i) g) (weight i) 0)) =
    all_grouped n (λ i. true) place weight k (λ i in_n is. below i in_n) in
    let each : total k (λ g. total n (λ i. cond (true && eqb (place i) g) (weight i) 0)) ≤ total k most =
    total-le k (λ g. total n (λ i. cond (true && eqb (place i) g) (weight i) 0)) most (λ g in_k.
    at_most_one n (λ i. true && eqb (place i) g) weight (most g)
    (λ i in_n is.
    let here = eqb-true (place i) g (and_parts true (eqb (place i) g) is).1 in
    subst (λ (x : ℕ). weight i ≤ most x) here (small i in_n))
    (λ i j in_i in_j is_i is_j.
    let at_i = eqb-true (place i) g (and_parts true (eqb (place i) g) is_i).1 in
    let at_j = eqb-true (place j) g (and_parts true (eqb (place j) g) is_j).1 in
    own i j in_i in_j (at_i ∙ sym at_j))) in
    omega (arith, groups, each)

-- the first place, and those behind it
total-first : (n : ℕ) (f : ℕ → ℕ) → total (suc n) f ≡ f 0 + total n (λ i. f (suc i))
unfolding total
total-first zero f = omega arith
total-first (suc n) f = let before : total (suc n) f ≡ f 0 + total n (λ i. f (suc i)) = total-first n f in omega (arith, before)

module _ {X Y : Type 0} (pick : X → Option Y) (value : Y → ℕ) where
  abbrev pub value_of : X → ℕ
  value_of x = option_map_or value (pick x) 0

  one_picked : (picked : Option Y) (ys : List Y) → sum_by value (cons_option picked ys) ≡ option_map_or value picked 0 + sum_by value ys
  one_picked None ys = omega arith
  one_picked (Some y) ys = sum_by-cons value y ys

  -- a sum over what is picked of a list, by the places of the list
  pub picked_sum : (xs : List X) (none : X) → total (length xs) (λ i. value_of (get_or xs i none)) ≡ sum_by value (filter_map pick xs)
  unfolding total
  picked_sum [] none = refl
  picked_sum (x ∷ xs) none =
      let front : total (suc (length xs)) (λ i. value_of (get_or (x ∷ xs) i none)) ≡ value_of x + total (length xs) (λ i. value_of (get_or xs i none)) =
      total-first (length xs) (λ i. value_of (get_or (x ∷ xs) i none)) in
      let rest = picked_sum xs none in
      let here = one_picked (pick x) (filter_map pick xs) in
      front ∙ omega (arith, rest, here)
