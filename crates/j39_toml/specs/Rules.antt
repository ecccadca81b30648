-- What a table asks of its keys: one list of rules, from which both its faults and its values are read.
use Rattle.std.specs.Prelude.{ℕ, ℤ, pos, negsuc, suc, List, [], Bool, true, false, ◌||◌, if◌then◌else◌, Option, Some, None, option_map, option_and_then}
use Rattle.std.specs.Prelude.{unwrap_or, nat_le, int_lt}
use Rattle.std.specs.Option.{option_or}
use Rattle.toml.specs.Data.{Data, string, integer, boolean, array, table, Items, no_items, item, Members, get_member, as_integer, as_str, as_bool, as_table}
use Rattle.toml.specs.Data.{as_array}
use Rattle.j39_toml.specs.declared.cause.Cause.{Cause}
use Rattle.j39_toml.specs.declared.cause.Cause.TheVariants.{WrongType, Range, TooMany}

-- ---- what a value is to be: the cause for which it is refused

abbrev pub range_cause : ℤ → ℤ → ℤ → Option Cause
range_cause low high z = if int_lt z low || int_lt high z then Some Range else None

-- an integer in a range
unfoldable pub integer_in : ℤ → ℤ → Data → Option Cause
integer_in low high (integer z) = range_cause low high z
integer_in low high _ = Some WrongType

abbrev pub natural_in : ℕ → ℕ → Data → Option Cause
natural_in low high = integer_in (pos low) (pos high)

unfoldable pub truth : Data → Option Cause
truth (boolean b) = None
truth _ = Some WrongType

-- a text of this form
unfoldable pub text_where : {P : Type 0} → (P → List ℕ → Bool) → P → Data → Option Cause
text_where fits form (string s) = if fits form s then None else Some Range
text_where fits form _ = Some WrongType

unfoldable pub one_table : Data → Option Cause
one_table (table ms) = None
one_table _ = Some WrongType

abbrev pub items_count : Items → ℕ
items_count no_items = 0
items_count (item d ds) = suc (items_count ds)

-- an array of at most so many elements
unfoldable pub array_up_to : ℕ → Data → Option Cause
array_up_to limit (array ds) = if nat_le (items_count ds) limit then None else Some TooMany
array_up_to limit _ = Some WrongType

-- ---- rules

-- a key and the words of keys, the cause for which a value of it is refused, what an absent one stands for, and whether without that the
-- key is missing
pub record Rule (K : Type 0) : Type 0 where
  pub key : K
  pub word : K → List ℕ
  pub kind : Data → Option Cause
  pub default : Option Data
  pub is_required : Bool

-- the rule of a key without a default
abbrev pub rule_of : {K : Type 0} → (K → List ℕ) → K → (Data → Option Cause) → Bool → Rule K
rule_of word k kind is_required = record { key = k; word = word; kind = kind; default = None; is_required = is_required }

-- the rule of a key with one
abbrev pub rule_or : {K : Type 0} → (K → List ℕ) → K → (Data → Option Cause) → Option Data → Rule K
rule_or word k kind default = record { key = k; word = word; kind = kind; default = default; is_required = true }

-- ---- values

-- what stands at a key, or for it
abbrev pub standing : {K : Type 0} → Rule K → Members → Option Data
standing r ms = option_or (get_member (r.word r.key) ms) r.default

abbrev pub natural : ℤ → ℕ
natural (pos n) = n
natural (negsuc n) = 0

unfoldable pub integer_of : {K : Type 0} → Rule K → Members → ℤ
integer_of r ms = unwrap_or (option_and_then as_integer (standing r ms)) (pos 0)

unfoldable pub number_of : {K : Type 0} → Rule K → Members → ℕ
number_of r ms = natural (unwrap_or (option_and_then as_integer (standing r ms)) (pos 0))

unfoldable pub flag_of : {K : Type 0} → Rule K → Members → Bool
flag_of r ms = unwrap_or (option_and_then as_bool (standing r ms)) false

unfoldable pub text_of : {K : Type 0} → Rule K → Members → List ℕ
text_of r ms = unwrap_or (option_and_then as_str (standing r ms)) []

-- what stands at a key, where it is of that type
unfoldable pub number_found : {K : Type 0} → (K → List ℕ) → K → Members → Option ℕ
number_found word k ms = option_map natural (option_and_then as_integer (get_member (word k) ms))

unfoldable pub truth_found : {K : Type 0} → (K → List ℕ) → K → Members → Option Bool
truth_found word k ms = option_and_then as_bool (get_member (word k) ms)

unfoldable pub text_found : {K : Type 0} → (K → List ℕ) → K → Members → Option (List ℕ)
text_found word k ms = option_and_then as_str (get_member (word k) ms)

unfoldable pub table_found : {K : Type 0} → (K → List ℕ) → K → Members → Option Members
table_found word k ms = option_and_then as_table (get_member (word k) ms)

unfoldable pub array_found : {K : Type 0} → (K → List ℕ) → K → Members → Option Items
array_found word k ms = option_and_then as_array (get_member (word k) ms)

-- the elements of an array, none where there is no array
abbrev pub elements_found : {K : Type 0} → (K → List ℕ) → K → Members → Items
elements_found word k ms = unwrap_or (array_found word k ms) no_items
