-- Variants that are in a box, and in none of those holes of a list whose places are near.
use Rattle.std.specs.declared.alloc.Global.{Global}
use Rattle.std.specs.Prelude.{Vec, ◌≡◌, ℕ, ◌<◌, nat_le, List, [], ◌∷◌, ◌++◌, Bool, true, false, ◌&&◌, ◌||◌, not, length, map, slice_index}
use Rattle.std.specs.List.{list_any, range_with_len}
use Rattle.j39_variants.specs.VariantPlans.{flag_at}
use Rattle.j39_variant_search.specs.VariantSearch.{box_flags, is_in_box}
use Rattle.j39_variant_search.specs.inside.BoxParts.{has_alternative, has_some, hole_at, is_left_at}

-- a variant is in the box, and in none of these holes
pub record IsOutsideNear (within : List (Vec Bool Global)) (holes : List (Vec (Vec Bool Global) Global)) (near variant : List ℕ) : Type 0 where
  pub in_box : is_in_box (box_flags within) variant ≡ true
  pub in_none : list_any (λ place. is_in_box (box_flags (hole_at holes place)) variant) near ≡ false

abbrev pub HasOutside : List (Vec Bool Global) → List (Vec (Vec Bool Global) Global) → List ℕ → Type 0
HasOutside within holes near = (variant : List ℕ) × IsOutsideNear within holes near variant

abbrev pub HasNoneOutside : List (Vec Bool Global) → List (Vec (Vec Bool Global) Global) → List ℕ → Type 0
HasNoneOutside within holes near = (variant : List ℕ) → ¬ IsOutsideNear within holes near variant

-- it begins with these places
abbrev pub StartsWith : List ℕ → List ℕ → Type 0
StartsWith [] variant = Unit {0}
StartsWith (p ∷ taken) [] = ⊥
StartsWith (p ∷ taken) (q ∷ variant) = (p ≡ q) × StartsWith taken variant

abbrev pub NoneBegins : List (Vec Bool Global) → List (Vec (Vec Bool Global) Global) → List ℕ → List ℕ → Type 0
NoneBegins within holes near taken = (variant : List ℕ) → IsOutsideNear within holes near variant → ¬ StartsWith taken variant

-- the first place with which some go on that begin with some places
pub record IsNextPlace (within : List (Vec Bool Global)) (holes : List (Vec (Vec Bool Global) Global)) (near taken : List ℕ) (place : ℕ)
    : Type 0 where
  pub one : (variant : List ℕ) × IsOutsideNear within holes near variant × StartsWith (taken ++ place ∷ []) variant
  pub none : (earlier : ℕ) → earlier < place → NoneBegins within holes near (taken ++ earlier ∷ [])

-- ---- by which choices there is none

-- a variant takes of these choices what the box has
abbrev pub IsInBoxBy : List Bool → List (List Bool) → List ℕ → Type 0
IsInBoxBy by within variant =
    (choice : ℕ) → choice < length within → flag_at by choice ≡ true → has_alternative within choice (slice_index variant choice) ≡ true

-- of the variants of a whole box that take of these choices what a part of it has, none is outside
abbrev pub IsNoneBy : List (Vec Bool Global) → List (Vec Bool Global) → List (Vec (Vec Bool Global) Global) → List ℕ → List Bool → Type 0
IsNoneBy whole within holes near by = (variant : List ℕ) → IsOutsideNear whole holes near variant → ¬ IsInBoxBy by (box_flags within) variant

-- the choices of which the box has no alternative
abbrev pub empty_choices : List (Vec Bool Global) → List Bool
empty_choices within = map (λ choice. not (has_some choice.items)) within

-- those by which a whole box leaves a hole, and a part of it doesn't
abbrev pub choices_inside : List (Vec Bool Global) → List (Vec Bool Global) → List (Vec Bool Global) → List Bool
choices_inside whole within hole =
    map (λ choice. not (is_left_at (box_flags within) (box_flags hole) choice) && is_left_at (box_flags whole) (box_flags hole) choice)
    (range_with_len 0 (length within))

-- the choices of either list
abbrev pub in_either : ℕ → List Bool → List Bool → List Bool
in_either count one other = map (λ choice. flag_at one choice || flag_at other choice) (range_with_len 0 count)

-- one of the choices, up to the last one here, is one by which the box leaves the hole
abbrev pub is_by_leaving : List Bool → List (Vec Bool Global) → List (Vec Bool Global) → ℕ → Bool
is_by_leaving by within hole last =
    list_any (λ choice. nat_le choice last && (flag_at by choice && is_left_at (box_flags within) (box_flags hole) choice))
    (range_with_len 0 (length within))
