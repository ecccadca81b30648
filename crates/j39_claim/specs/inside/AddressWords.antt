-- Sets of addresses as words of 64 bits.
use Rattle.std.specs.Prelude.{◌≡◌, ℕ, ◌+◌, ◌/◌, ◌%◌, ◌^◌, ◌<◌, Bool, ◌==◌, ◌&&◌, nat_lt, Option}
use Rattle.std.specs.Prelude.{List, filter, find, count_by, slice_index}
use Rattle.std.specs.List.{range_with_len}
use Rattle.std.specs.Int.{bit_at, from_bool}
use Rattle.std.specs.Ordering.{nat_cmp}
use Rattle.std.specs.FinSet.{FinSet, from_list}
use Rattle.j39_id.specs.Addresses.{pool}

-- address a is bit a % 64 of word a / 64
abbrev pub has_bit : List ℕ → ℕ → Bool
has_bit words a = bit_at (slice_index words (a / 64)) (a % 64) == 1

-- the set that four words hold
unfoldable pub set_of : List ℕ → FinSet nat_cmp
set_of words = from_list (filter (has_bit words) (range_with_len 0 256))

-- bit i of a word says whether p holds of first + i, for its n lowest bits, and no other bit is set
pub record HasBits (p : ℕ → Bool) (first n word : ℕ) : Type 0 where
  pub below : word < 2 ^ n
  pub bits : (i : ℕ) → i < n → bit_at word i ≡ from_bool (p (first + i))

-- two words say of which addresses of the pool p holds
pub record ArePassing (p : ℕ → Bool) (first second : ℕ) : Type 0 where
  pub low : HasBits p 128 64 first
  pub high : HasBits p 192 56 second

-- p holds above an address alone
abbrev pub is_above : ℕ → (ℕ → Bool) → ℕ → Bool
is_above address p a = nat_lt address a && p a

-- how many addresses of the pool pass, and the least of them
unfoldable pub count_in_pool : (ℕ → Bool) → ℕ
count_in_pool p = count_by p pool

unfoldable pub least_in_pool : (ℕ → Bool) → Option ℕ
least_in_pool p = find p pool
