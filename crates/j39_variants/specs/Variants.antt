-- Variants, and the boxes that lists stand for.
use Rattle.std.specs.declared.alloc.Global.{Global}
use Rattle.std.specs.Prelude.{◌≡◌, ◌⊎◌, ℕ, ◌<◌, ◌==◌, List, [], ◌∷◌, ◌++◌, Bool, true, false, ◌&&◌, ◌||◌, not, length, slice_index, Vec}
use Rattle.std.specs.List.{list_all, list_any, slice_get}
use Rattle.std.specs.Option.{option_map_or}
use Rattle.j39_variants.specs.declared.line.Alternative.{Alternative}
use Rattle.j39_variants.specs.declared.line.Choice.{Choice}
use Rattle.j39_variants.specs.declared.line.ProductLine.{ProductLine}

-- how many alternatives the choice of a place has
abbrev pub size_at : List Choice → ℕ → ℕ
size_at choices c = option_map_or (λ choice. length choice.alternatives.items) (slice_get choices c) 0

-- places of alternatives, of one choice after the other
abbrev pub FitChoices : List Choice → List ℕ → Type 0
FitChoices choices places = (c : ℕ) → c < length places → slice_index places c < size_at choices c

-- A variant takes one alternative of each choice: its places, choice by choice.
pub record IsVariant (choices : List Choice) (variant : List ℕ) : Type 0 where
  pub fits : FitChoices choices variant
  pub of_each : length variant ≡ length choices

-- the variant takes the alternative
abbrev pub takes_alternative : List ℕ → Alternative → Bool
takes_alternative variant a = option_map_or (λ place. place == a.place) (slice_get variant a.choice) false

-- the variant is in the box of a list: of each choice of which this names some alternatives, it takes one of these
abbrev pub is_in : List ℕ → List Alternative → Bool
is_in variant list = list_all (λ a. list_any (λ b. (b.choice == a.choice) && takes_alternative variant b) list) list

-- it is in no box that isn't built
abbrev pub is_possible : List (Vec Alternative Global) → List ℕ → Bool
is_possible nevers variant = list_all (λ never. not (is_in variant never.items)) nevers

-- ---- variants that take some alternatives

abbrev pub takes_all : List ℕ → List Alternative → Bool
takes_all variant wanted = list_all (λ a. takes_alternative variant a) wanted

-- one that takes the alternative of this place may take all of these
abbrev pub is_allowed : List Alternative → ℕ → ℕ → Bool
is_allowed wanted c place = list_all (λ a. not (a.choice == c) || (place == a.place)) wanted

-- a possible variant of a line that takes them
pub record IsTaking (line : ProductLine) (wanted : List Alternative) (variant : List ℕ) : Type 0 where
  pub is_variant : IsVariant line.choices.items variant
  pub possible : is_possible line.nevers.items variant ≡ true
  pub takes_these : takes_all variant wanted ≡ true

-- there is none that begins with these places
abbrev pub NoneTakes : ProductLine → List Alternative → List ℕ → Type 0
NoneTakes line wanted taken = (rest : List ℕ) → ¬ IsTaking line wanted (taken ++ rest)

-- Of two variants that one is earlier which takes the earlier alternative in the first choice in which they differ.
abbrev pub IsEarlier : List ℕ → List ℕ → Type 0
IsEarlier [] w = ⊥
IsEarlier (p ∷ v) [] = ⊥
IsEarlier (p ∷ v) (q ∷ w) = (p < q) ⊎ ((p ≡ q) × IsEarlier v w)

-- the first possible variant that takes them, of those that begin with these places
pub record IsFirstBehind (line : ProductLine) (wanted : List Alternative) (taken variant : List ℕ) : Type 0 where
  pub is_taking : IsTaking line wanted variant
  pub begins : (rest : List ℕ) × (variant ≡ taken ++ rest)
  pub first : (rest : List ℕ) → IsTaking line wanted (taken ++ rest) → ¬ IsEarlier (taken ++ rest) variant

-- the first possible variant that takes them: no earlier one is possible and does
pub record IsFirstTaking (line : ProductLine) (wanted : List Alternative) (variant : List ℕ) : Type 0 where
  pub is_taking : IsTaking line wanted variant
  pub first : (other : List ℕ) → IsTaking line wanted other → ¬ IsEarlier other variant
