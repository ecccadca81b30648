-- Parts of boxes.
use Rattle.std.specs.declared.alloc.Global.{Global}
use Rattle.std.specs.Prelude.{Vec, ◌≡◌, ℕ, ◌<◌, ◌==◌, nat_lt, List, [], Bool, true, ◌&&◌, ◌||◌, not, length, map, option_map, unwrap_or, if◌then◌else◌}
use Rattle.std.specs.List.{enumerate_from, list_all, list_any, range_with_len, slice_get, zip}
use Rattle.std.specs.Option.{option_map_or}
use Rattle.j39_variants.specs.VariantPlans.{flag_at}
use Rattle.j39_variant_search.specs.VariantSearch.{box_flags}

-- the flags of a choice; a box has no alternative of a choice behind its choices
abbrev pub flags_at : List (List Bool) → ℕ → List Bool
flags_at within choice = unwrap_or (slice_get within choice) []

abbrev pub has_alternative : List (List Bool) → ℕ → ℕ → Bool
has_alternative within choice place = flag_at (flags_at within choice) place

abbrev pub hole_at : List (Vec (Vec Bool Global) Global) → ℕ → List (Vec Bool Global)
hole_at holes place = unwrap_or (option_map (λ hole. hole.items) (slice_get holes place)) []

-- two boxes have an alternative of a choice in common
abbrev pub is_common : List Bool → List Bool → Bool
is_common one other = list_any (λ both. both.0 && both.1) (zip one other)

-- the first has one that the second hasn't
abbrev pub is_left : List Bool → List Bool → Bool
is_left one other = list_any (λ at. at.1 && not (flag_at other at.0)) (enumerate_from 0 one)

abbrev pub is_left_at : List (List Bool) → List (List Bool) → ℕ → Bool
is_left_at within hole choice = is_left (flags_at within choice) (flags_at hole choice)

abbrev pub has_some : List Bool → Bool
has_some flags = list_any (λ flag. flag) flags

-- some choice has no alternative
abbrev pub is_empty_box : List (Vec Bool Global) → Bool
is_empty_box within = list_any (λ choice. not (has_some choice.items)) within

-- they have one of each choice of the first in common
abbrev pub are_common : List (Vec Bool Global) → List (Vec Bool Global) → Bool
are_common within hole =
    list_all (λ choice. is_common (flags_at (box_flags within) choice) (flags_at (box_flags hole) choice)) (range_with_len 0 (length within))

-- some variant is in both, where none is empty
abbrev pub is_met : List (Vec Bool Global) → List (Vec Bool Global) → Bool
is_met within hole = (length within == length hole) && are_common within hole

-- those flags whose place passes a test
abbrev pub flags_with : (ℕ → Bool) → List Bool → List Bool
flags_with test flags = map (λ at. at.1 && test at.0) (enumerate_from 0 flags)

-- a part of a box: of each choice those alternatives that pass a test
pub record IsBoxPart (test : ℕ → ℕ → Bool) (within part : List (List Bool)) : Type 0 where
  pub of_each : length part ≡ length within
  pub has_these : (choice place : ℕ) → choice < length within
      → has_alternative part choice place ≡ (has_alternative within choice place && test choice place)

-- whether an alternative of a choice, which a hole has or not, is in the part whose variants leave the hole first by another one
abbrev pub is_kept : ℕ → ℕ → Bool → Bool
is_kept first choice in_hole = if nat_lt choice first then in_hole else (not (choice == first) || not in_hole)

-- the test of those that leave a hole first by a choice
abbrev pub is_behind : List (List Bool) → ℕ → ℕ → ℕ → Bool
is_behind hole first choice place = is_kept first choice (has_alternative hole choice place)

-- the test of those that begin with some places
abbrev pub is_taken_at : List ℕ → ℕ → ℕ → Bool
is_taken_at taken choice place = option_map_or (λ other. place == other) (slice_get taken choice) true
