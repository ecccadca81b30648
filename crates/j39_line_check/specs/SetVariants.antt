-- Variants that take alternatives of a set alone.
use Rattle.std.specs.Prelude.{◌≡◌, ℕ, ◌+◌, ◌*◌, ◌==◌, List, [], ◌∷◌, Bool, true, false, ◌&&◌, count_by, filter, length, map}
use Rattle.std.specs.List.{list_all, list_any, range_with_len}
use Rattle.j39_variants.specs.Variants.{IsEarlier, IsVariant, size_at}
use Rattle.j39_variants.specs.declared.line.Alternative.{Alternative}
use Rattle.j39_variants.specs.declared.line.Choice.{Choice}
use Rattle.j39_line_findings.specs.AllVariants.{IsOneOf}
use Rattle.j39_line_findings.specs.Boxes.{is_one_alternative}
use Rattle.j39_line_findings.specs.FullVariants.{alternative_at}

-- a set names an alternative, or one of a choice
abbrev pub set_has : List Alternative → Alternative → Bool
set_has set a = list_any (λ b. is_one_alternative b a) set

abbrev pub has_choice : List Alternative → ℕ → Bool
has_choice set c = list_any (λ b. b.choice == c) set

-- some of each choice
abbrev pub has_each_choice : List Choice → List Alternative → Bool
has_each_choice choices set = list_all (has_choice set) (range_with_len 0 (length choices))

-- each of these alternatives, of choices from this one on, is in the set
abbrev pub takes_from : List Alternative → ℕ → List ℕ → Bool
takes_from set c [] = true
takes_from set c (p ∷ places) = set_has set (alternative_at c p) && takes_from set (c + 1) places

-- a variant takes alternatives of the set alone; or of one of these sets
abbrev pub takes_alone : List Alternative → List ℕ → Bool
takes_alone set v = takes_from set 0 v

abbrev pub is_of_some_set : List (List Alternative) → List ℕ → Bool
is_of_some_set sets v = list_any (λ set. takes_alone set v) sets

-- each comes before those behind it
abbrev pub AreEarliestFirst : List (List ℕ) → Type 0
AreEarliestFirst [] = Unit {0}
AreEarliestFirst (v ∷ variants) = ((w : List ℕ) → IsOneOf variants w → IsEarlier v w) × AreEarliestFirst variants

-- the variants of these choices that take alternatives of one of these sets alone, each once, in order
pub record AreVariantsOfSets (choices : List Choice) (sets : List (List Alternative)) (variants : List (List ℕ)) : Type 0 where
  pub complete : (v : List ℕ) → IsVariant choices v → is_of_some_set sets v ≡ true → IsOneOf variants v
  pub are_variants : (v : List ℕ) → IsOneOf variants v → IsVariant choices v
  pub are_of_sets : (v : List ℕ) → IsOneOf variants v → is_of_some_set sets v ≡ true
  pub in_order : AreEarliestFirst variants

-- ---- how many there are

-- alternatives of a choice that a set has
abbrev pub count_of_choice : List Choice → List Alternative → ℕ → ℕ
count_of_choice choices set c = count_by (λ p. set_has set (alternative_at c p)) (range_with_len 0 (size_at choices c))

abbrev pub product_of : List ℕ → ℕ
product_of [] = 1
product_of (x ∷ xs) = x * product_of xs

-- over the choices, how many alternatives of the choice the set has
abbrev pub variants_of_set : List Choice → List Alternative → ℕ
variants_of_set choices set = product_of (map (count_of_choice choices set) (range_with_len 0 (length choices)))

-- ---- sets that count

-- each alternative of the one is in the other
abbrev pub is_set_inside : List Alternative → List Alternative → Bool
is_set_inside one other = list_all (set_has other) one

abbrev pub IsSetAmong : List (List Alternative) → List Alternative → Type 0
IsSetAmong = IsOneOf

-- none of these is inside another
abbrev pub AreNotNested : List (List Alternative) → Type 0
AreNotNested [] = Unit {0}
AreNotNested (s ∷ sets) = ((t : List Alternative) → IsSetAmong sets t → (is_set_inside s t ≡ false) × (is_set_inside t s ≡ false)) × AreNotNested sets

-- of these sets those that count: equal ones once, and none that is inside another
pub record AreWidest (sets kept : List (List Alternative)) : Type 0 where
  pub sound : (s : List Alternative) → IsSetAmong kept s → IsSetAmong sets s
  pub wide : (s : List Alternative) → IsSetAmong sets s → (t : List Alternative) × IsSetAmong kept t × (is_set_inside s t ≡ true)
  pub apart : AreNotNested kept

-- those that some variant takes alone: a set that lacks a choice has none
abbrev pub with_each_choice : List Choice → List (List Alternative) → List (List Alternative)
with_each_choice choices sets = filter (has_each_choice choices) sets
