-- The values of a plan file's keys that other files don't have: kept addresses, bitrates, divisors and tables of names. The cause for which
-- each is refused.
use Rattle.std.specs.Prelude.{ℕ, pos, suc, List, [], ◌∷◌, Bool, true, not, ◌&&◌, ◌||◌, ◌==◌, if◌then◌else◌, Option, Some, None, is_some, length, slice_index}
use Rattle.std.specs.Prelude.{nat_le, nat_lt, unwrap_or, false}
use Rattle.std.specs.Str.{all_ascii_digits}
use Rattle.std.specs.Str.Parse.{digits_value}
use Rattle.std.specs.FinSet.{FinSet, empty, contains, insert}
use Rattle.std.specs.Option.{option_or, option_map_or}
use Rattle.std.specs.Ordering.{nat_cmp}
use Rattle.j39_id.specs.Addresses.{in_pool}
use Rattle.toml.specs.Data.{Data, integer, boolean, array, table, Items, no_items, item, Members, no_members, member, as_integer, as_str}
use Rattle.j39_toml.specs.declared.cause.Cause.{Cause}
use Rattle.j39_toml.specs.declared.cause.Cause.TheVariants.{WrongType, Range, TooMany, Repeated}
use Rattle.j39_signal.specs.Parts.{divides_decimally}
use Rattle.j39_id.specs.LabelForm.{is_label}
use Rattle.j39_network.specs.PlanLimits.{value_limit}
use Rattle.j39_toml.specs.Rules.{natural, items_count}

-- ---- truth values

-- a truth value that may be true only where this says so
unfoldable pub truth_where : Bool → Data → Option Cause
truth_where may (boolean b) = if b && not may then Some Range else None
truth_where may _ = Some WrongType

-- ---- addresses

-- the number that an element is, 0 where it is none
abbrev pub number_in : Data → ℕ
number_in d = natural (unwrap_or (as_integer d) (pos 0))

abbrev pub numbers_in : Items → List ℕ
numbers_in no_items = []
numbers_in (item d ds) = number_in d ∷ numbers_in ds

-- the cause for which an element is refused that stands behind those with these numbers: it is to be an address of the pool, and
-- none of these
abbrev pub address_cause : FinSet nat_cmp → Data → Option Cause
address_cause earlier (integer z) =
    if in_pool (natural z) then (if contains earlier (natural z) then Some Repeated else None) else Some Range
address_cause earlier _ = Some WrongType

-- the first cause for which one of the elements is refused that stand behind those with these numbers
abbrev pub addresses_cause : FinSet nat_cmp → Items → Option Cause
addresses_cause earlier no_items = None
addresses_cause earlier (item d ds) = option_or (address_cause earlier d) (addresses_cause (insert earlier (number_in d)) ds)

-- different addresses of the pool, at most so many
unfoldable pub addresses_up_to : ℕ → Data → Option Cause
addresses_up_to limit (array ds) = if nat_le (items_count ds) limit then addresses_cause empty ds else Some TooMany
addresses_up_to limit _ = Some WrongType

-- ---- numbers

-- a bitrate that the third version knows, or one more
abbrev pub is_bitrate : Bool → ℕ → Bool
is_bitrate more n = n == 250000 || (n == 500000 || (more && (n == 125000 || n == 1000000)))

unfoldable pub bitrate_of_bus : Bool → Data → Option Cause
bitrate_of_bus more (integer z) = if is_bitrate more (natural z) then None else Some Range
bitrate_of_bus more _ = Some WrongType

-- a product of 2s and 5s up to a limit
unfoldable pub divisor_up_to : ℕ → Data → Option Cause
divisor_up_to limit (integer z) = if divides_decimally (natural z) && nat_le (natural z) limit then None else Some Range
divisor_up_to limit _ = Some WrongType

-- ---- names of raw numbers

abbrev pub members_count : Members → ℕ
members_count no_members = 0
members_count (member k d ms) = suc (members_count ms)

-- a number in decimal digits, without sign and leading zeros
abbrev pub is_decimal : List ℕ → Bool
is_decimal name = all_ascii_digits name && (length name == 1 || (nat_lt 1 (length name) && not (slice_index name 0 == 48)))

abbrev pub is_number_below : ℕ → List ℕ → Bool
is_number_below limit name = is_decimal name && nat_lt (digits_value 10 name) limit

-- each value of the table is a text
abbrev pub has_texts : Members → Bool
has_texts no_members = true
has_texts (member k d ms) = is_some (as_str d) && has_texts ms

-- each key is a number below the limit
abbrev pub has_numbers : ℕ → Members → Bool
has_numbers limit no_members = true
has_numbers limit (member k d ms) = is_number_below limit k && has_numbers limit ms

-- each value is a label
abbrev pub has_labels : Members → Bool
has_labels no_members = true
has_labels (member k d ms) = option_map_or is_label (as_str d) false && has_labels ms

-- the cause for which a table of names is refused
abbrev pub names_cause : ℕ → Members → Option Cause
names_cause limit ms =
    if not (nat_le (members_count ms) value_limit) then Some TooMany
    else if not (has_texts ms) then Some WrongType
    else if not (has_numbers limit ms && has_labels ms) then Some Range
    else None

-- a table of names, which may stand only where this says so: of numbers below a limit
unfoldable pub names_below : Bool → ℕ → Data → Option Cause
names_below may limit (table ms) = if may then names_cause limit ms else Some Range
names_below may limit _ = Some WrongType
