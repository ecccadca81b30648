-- Notes as pairs of NAME and address in rising order of NAME, with how many NAMEs are noted at each address.
use Rattle.std.specs.Prelude.{◌≡◌, ℕ, ◌<◌, ◌≤◌, T, ◌==◌, nat_lt, List, length, count_by, slice_index, slice_index_or}
use Rattle.std.specs.Ordering.{nat_cmp}
use Rattle.std.specs.FinMap.{is_sorted}
use Rattle.std.specs.FinSet.{FinSet, contains}

abbrev pub Pairs : Type 0
Pairs = List (ℕ × ℕ)

-- the NAME at place i
abbrev pub name_at : Pairs → ℕ → ℕ
name_at pairs i = let pair = slice_index_or pairs i (0, 0) in pair.0

-- the NAME stands at place i
pub record IsAt (pairs : Pairs) (name i : ℕ) : Type 0 where
  pub in_range : i < length pairs
  pub is_name : name_at pairs i ≡ name

-- the NAME belongs at place i: smaller NAMEs stand before it, and greater ones from it on
pub record IsGapFor (pairs : Pairs) (name i : ℕ) : Type 0 where
  pub in_range : i ≤ length pairs
  pub smaller_before : (j : ℕ) → j < i → name_at pairs j < name
  pub greater_after : (j : ℕ) → i ≤ j → j < length pairs → name < name_at pairs j

-- how many NAMEs stand at an address
abbrev pub count_at : Pairs → ℕ → ℕ
count_at pairs a = count_by (λ pair. pair.1 == a) pairs

-- the NAMEs rise, and each address has the count of the NAMEs that stand at it
pub record AreNotes (pairs : Pairs) (counts : List ℕ) : Type 0 where
  pub rising : T (is_sorted nat_cmp pairs)
  pub counted : (a : ℕ) → slice_index counts a ≡ count_at pairs a

-- the set has each address whose count is not 0
pub record HasCounted (noted : FinSet nat_cmp) (counts : List ℕ) : Type 0 where
  pub each : (a : ℕ) → contains noted a ≡ nat_lt 0 (slice_index counts a)
