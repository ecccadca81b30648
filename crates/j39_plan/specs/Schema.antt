-- What the tables of a plan file ask of their keys, and what stands at these.
use Rattle.std.specs.Prelude.{ℕ, ℤ, pos, List, Bool, true, false, if◌then◌else◌, Option, Some, is_some, option_map, option_and_then, unwrap_or}
use Rattle.std.specs.FinSet.{FinSet, from_list}
use Rattle.std.specs.Ordering.{nat_cmp}
use Rattle.toml.specs.Data.{string, integer, boolean, array, Items, no_items, Members, get_member, as_array}
use Rattle.j39_toml.specs.Rules.{Rule, rule_of, rule_or, integer_in, natural_in, truth, text_where, one_table, array_up_to, standing, number_found}
use Rattle.j39_toml.specs.Rules.{text_found, table_found, elements_found}
use Rattle.j39_plan.specs.declared.reading.key.Key.{Key}
use Rattle.j39_plan.specs.declared.reading.text_kind.TextKind.{TextKind}
use Rattle.j39_plan.specs.declared.reading.text_kind.TextKind.TheVariants as texts
use Rattle.j39_plan.specs.Words.{word_of}
use Rattle.j39_plan.specs.TextKinds.{takes}
use Rattle.j39_plan.specs.ValueCauses.{truth_where, addresses_up_to, numbers_in, bitrate_of_bus, divisor_up_to, names_below}

-- ---- rules

abbrev pub PlanRule : Type 0
PlanRule = Rule Key

abbrev pub number : Key → ℕ → ℕ → Option ℕ → PlanRule
number k low high default = rule_or word_of k (natural_in low high) (option_map (λ n. integer (pos n)) default)

abbrev pub signed : Key → ℤ → ℤ → Option ℤ → PlanRule
signed k low high default = rule_or word_of k (integer_in low high) (option_map integer default)

abbrev pub flag : Key → Bool → PlanRule
flag k default = rule_or word_of k truth (Some (boolean default))

-- a truth value that may be true only where this says so
abbrev pub flag_if : Key → Bool → PlanRule
flag_if k may = rule_or word_of k (truth_where may) (Some (boolean false))

abbrev pub text : Key → TextKind → Option (List ℕ) → PlanRule
text k kind default = rule_or word_of k (text_where takes kind) (option_map string default)

abbrev pub inner_table : Key → PlanRule
inner_table k = rule_of word_of k one_table true

-- a table that may be absent
abbrev pub optional_table : Key → PlanRule
optional_table k = rule_of word_of k one_table false

-- one of the bitrates of a bus: of those that the third version knows, or of more
abbrev pub bitrate : Key → Bool → PlanRule
bitrate k more = rule_of word_of k (bitrate_of_bus more) true

-- a text that may be absent
abbrev pub optional_text : Key → PlanRule
optional_text k = rule_of word_of k (text_where takes texts.Any) false

-- a table of names that may be absent, and may stand only where this says so: of numbers below a limit
abbrev pub names : Key → Bool → ℕ → PlanRule
names k may limit = rule_of word_of k (names_below may limit) false

abbrev pub tables : Key → ℕ → PlanRule
tables k limit = rule_of word_of k (array_up_to limit) false

abbrev pub addresses : Key → ℕ → PlanRule
addresses k limit = rule_or word_of k (addresses_up_to limit) (Some (array no_items))

abbrev pub divisor : Key → ℕ → PlanRule
divisor k limit = rule_or word_of k (divisor_up_to limit) (Some (integer (pos 1)))

-- a number that may be absent
abbrev pub optional : Key → ℕ → ℕ → PlanRule
optional k low high = rule_of word_of k (natural_in low high) false

-- ---- values

-- something stands in the table at this key
unfoldable pub has_key : Key → Members → Bool
has_key k ms = is_some (get_member (word_of k) ms)

-- the number, the text and the table, where one stands there
abbrev pub given_number : PlanRule → Members → Option ℕ
given_number r ms = number_found r.word r.key ms

abbrev pub found_text : PlanRule → Members → Option (List ℕ)
found_text r ms = text_found r.word r.key ms

abbrev pub table_of : PlanRule → Members → Option Members
table_of r ms = table_found r.word r.key ms

-- an array that is refused has no elements
abbrev pub accepted : PlanRule → Items → Items
accepted r ds = if is_some (r.kind (array ds)) then no_items else ds

unfoldable pub tables_of : PlanRule → Members → Items
tables_of r ms = accepted r (elements_found r.word r.key ms)

-- the set of these numbers
unfoldable pub addresses_of : PlanRule → Members → FinSet nat_cmp
addresses_of r ms = from_list (numbers_in (unwrap_or (option_and_then as_array (standing r ms)) no_items))
