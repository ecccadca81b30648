-- Which variant is the first in a box and in none of some others. A box reports choice by choice which alternatives it has, by their places.
use Rattle.std.specs.declared.alloc.Global.{Global}
use Rattle.std.specs.Prelude.{Vec, ◌≡◌, ℕ, List, [], ◌∷◌, Bool, true, false, ◌&&◌, map}
use Rattle.std.specs.List.{list_any}
use Rattle.j39_variants.specs.VariantPlans.{flag_at}
use Rattle.j39_variants.specs.Variants.{IsEarlier}

abbrev pub box_flags : List (Vec Bool Global) → List (List Bool)
box_flags within = map (λ choice. choice.items) within

abbrev pub boxes_flags : List (Vec (Vec Bool Global) Global) → List (List (List Bool))
boxes_flags boxes = map (λ box. box_flags box.items) boxes

-- a variant is in a box: it takes of each choice an alternative that the box has, and of no more choices
abbrev pub is_in_box : List (List Bool) → List ℕ → Bool
is_in_box [] [] = true
is_in_box [] (place ∷ variant) = false
is_in_box (choice ∷ within) [] = false
is_in_box (choice ∷ within) (place ∷ variant) = flag_at choice place && is_in_box within variant

-- it is in the box, and in none of the others
pub record IsOutsideBoxes (within : List (List Bool)) (holes : List (List (List Bool))) (variant : List ℕ) : Type 0 where
  pub in_box : is_in_box within variant ≡ true
  pub in_none : list_any (λ hole. is_in_box hole variant) holes ≡ false

abbrev pub NoneOutside : List (List Bool) → List (List (List Bool)) → Type 0
NoneOutside within holes = (variant : List ℕ) → ¬ IsOutsideBoxes within holes variant

-- and no earlier one is
pub record IsFirstOutside (within : List (List Bool)) (holes : List (List (List Bool))) (variant : List ℕ) : Type 0 where
  pub is_outside : IsOutsideBoxes within holes variant
  pub first : (other : List ℕ) → IsOutsideBoxes within holes other → ¬ IsEarlier other variant
