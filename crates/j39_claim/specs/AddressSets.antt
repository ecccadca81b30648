-- What a set of addresses leaves free of the pool.
use Rattle.std.specs.Prelude.{◌≡◌, ℕ, ◌<◌, ◌⊎◌, MatchOption, Bool, true, false, not, ◌&&◌, nat_lt, Option, Some, None, find, count_by}
use Rattle.std.specs.Ordering.{nat_cmp}
use Rattle.std.specs.FinSet.{FinSet, contains}
use Rattle.j39_id.specs.Addresses.{in_pool, pool}

-- an address of the pool that is not taken
pub record IsFreeIn (taken : FinSet nat_cmp) (b : ℕ) : Type 0 where
  pub pool : in_pool b ≡ true
  pub free : contains taken b ≡ false

abbrev pub is_free : FinSet nat_cmp → ℕ → Bool
is_free taken b = not (contains taken b)

-- how many addresses of the pool are free
unfoldable pub free_count : FinSet nat_cmp → ℕ
free_count taken = count_by (is_free taken) pool

-- the least of them
unfoldable pub lowest_free : FinSet nat_cmp → Option ℕ
lowest_free taken = find (is_free taken) pool

-- a free address below which the whole pool is taken
pub record IsLeastFree (taken : FinSet nat_cmp) (b : ℕ) : Type 0 where
  pub free : IsFreeIn taken b
  pub lower : (a : ℕ) → in_pool a ≡ true → a < b → contains taken a ≡ true

-- it is the least free address, and there is none only where the whole pool is taken
abbrev pub LowestFreeIsLeast : Type 0
LowestFreeIsLeast =
    (taken : FinSet nat_cmp) → MatchOption (lowest_free taken) ((a : ℕ) → in_pool a ≡ true → contains taken a ≡ true) (IsLeastFree taken)

-- the least of them above an address
unfoldable pub free_above : ℕ → FinSet nat_cmp → Option ℕ
free_above before taken = find (λ b. nat_lt before b && is_free taken b) pool

abbrev pub first_of_two : Option ℕ → Option ℕ → Option ℕ
first_of_two (Some b) next = Some b
first_of_two None next = next

-- the first one after an address, counted upwards and from 247 round to 128
abbrev pub next_free : ℕ → FinSet nat_cmp → Option ℕ
next_free before taken = first_of_two (free_above before taken) (lowest_free taken)

-- no address of the pool above this one is free
abbrev pub IsTakenAbove : ℕ → FinSet nat_cmp → Type 0
IsTakenAbove before taken = (a : ℕ) → in_pool a ≡ true → before < a → contains taken a ≡ true

-- a free address above another one, and what lies between is taken
pub record IsFirstFreeAbove (before : ℕ) (taken : FinSet nat_cmp) (b : ℕ) : Type 0 where
  pub free : IsFreeIn taken b
  pub above : before < b
  pub between : (a : ℕ) → in_pool a ≡ true → before < a → a < b → contains taken a ≡ true

-- it is the first free address above, or else the least of all, and there is none only where the whole pool is taken
abbrev pub NextFreeIsNext : Type 0
NextFreeIsNext =
    (before : ℕ) (taken : FinSet nat_cmp) → MatchOption (next_free before taken) ((a : ℕ) → in_pool a ≡ true → contains taken a ≡ true)
    (λ b. IsFirstFreeAbove before taken b ⊎ (IsTakenAbove before taken × IsLeastFree taken b))
