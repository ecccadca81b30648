-- Addresses (SAE J1939-81): 0 to 253 are held by units.
use Rattle.std.specs.Prelude.{ℕ, Bool, ◌&&◌, nat_lt, nat_le, List}
use Rattle.std.specs.List.{range_with_len}

-- where a unit sends from that holds no address
abbrev pub null_address : ℕ
null_address = 254

-- where a frame goes that is for all
abbrev pub global_address : ℕ
global_address = 255

-- an address that a unit can hold
abbrev pub is_address : ℕ → Bool
is_address a = nat_lt a null_address

-- the pool among which arbitrary address capable units choose, by its first and its last address
abbrev pub pool_first : ℕ
pool_first = 128

abbrev pub pool_last : ℕ
pool_last = 247

abbrev pub in_pool : ℕ → Bool
in_pool a = nat_le pool_first a && nat_le a pool_last

abbrev pub pool_size : ℕ
pool_size = 120

-- all of them, rising
abbrev pub pool : List ℕ
pool = range_with_len pool_first pool_size
