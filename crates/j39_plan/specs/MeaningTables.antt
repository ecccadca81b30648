-- What is known of a signal since the fourth version beside its place and its scale: whether it is optional, its number, and the names of
-- its raw numbers.
use Rattle.std.specs.Prelude.{◌≡◌, ℕ, ◌^◌, min, not, List, [], ◌∷◌, Bool, false, if◌then◌else◌, Option, Some, None, option_map, unwrap_or}
use Rattle.std.specs.Str.Parse.{digits_value}
use Rattle.j39_plan.specs.declared.reading.meanings.MeaningKeys.{MeaningKeys}
use Rattle.toml.specs.View.{table_view}
use Rattle.toml.specs.Data.{Members, no_members, member, as_str}
use Rattle.j39_network.specs.PlanLimits.{spn_most}
use Rattle.j39_network.specs.declared.plan.meaning.Meaning.{Meaning}
use Rattle.j39_network.specs.declared.plan.meaning.ValueName.{ValueName}
use Rattle.j39_plan.specs.declared.reading.key.Key.TheVariants as key
use Rattle.j39_plan.specs.declared.reading.version.Version.{Version}
use Rattle.j39_plan.specs.declared.reading.version.Version.TheVariants.{Fourth}
use Rattle.j39_plan.specs.Since.{Since, since, is_known}
use Rattle.j39_plan.specs.Schema.{PlanRule, names, flag_if, optional, given_number, table_of}
use Rattle.j39_toml.specs.Rules.{flag_of}

-- one that is repeated can't be optional
abbrev pub optional_rule : Bool → PlanRule
optional_rule repeated = flag_if key.Optional (not repeated)

abbrev pub spn_rule : PlanRule
spn_rule = optional key.Spn 0 spn_most

-- names are of the raw numbers that so many bits have, of at most 32, and a trouble code has none
abbrev pub raw_limit : ℕ → ℕ
raw_limit bits = 2 ^ min bits 32

abbrev pub values_rule : Bool → ℕ → PlanRule
values_rule code bits = names key.Values (not code) (raw_limit bits)

-- by whether the signal is repeated, whether the table is that of a trouble code, and by the width of the signal
abbrev pub meaning_rules : Bool → Bool → ℕ → List Since
meaning_rules repeated code bits =
    since Fourth (optional_rule repeated)
    ∷ since Fourth spn_rule
    ∷ since Fourth (values_rule code bits)
    ∷ []

-- whether it is optional: it isn't in a version that doesn't know it
abbrev pub optional_of : Version → Members → Bool
optional_of version ms = if is_known Fourth version then flag_of (optional_rule false) ms else false

-- the number, and the table of names: none in a version that doesn't know them
abbrev pub spn_of : Version → Members → Option ℕ
spn_of version ms = if is_known Fourth version then given_number spn_rule ms else None

abbrev pub name_table : Version → Members → Members
name_table version ms = if is_known Fourth version then unwrap_or (table_of (values_rule false 0) ms) no_members else no_members

-- each key with its value is a raw number with its name, in order
unfoldable pub AreValueNames : Members → List ValueName → Type 0
AreValueNames no_members [] = Unit {0}
AreValueNames (member k d ms) (n ∷ ns) = (n.raw ≡ digits_value 10 k) × (as_str d ≡ Some n.name.bytes) × AreValueNames ms ns
AreValueNames _ _ = ⊥

-- what the keys of a table report of a signal, its names as the file has them
pub record DescribesKeys (version : Version) (ms : Members) (m : MeaningKeys) : Type 0 where
  pub has_optional : m.optional ≡ optional_of version ms
  pub has_spn : m.spn ≡ spn_of version ms
  pub has_names : unwrap_or (option_map (λ t. table_view t.now) m.names) no_members ≡ name_table version ms

-- what a table reports of a signal
pub record DescribesMeaning (version : Version) (ms : Members) (m : Meaning) : Type 0 where
  pub has_spn : m.spn ≡ spn_of version ms
  pub has_values : AreValueNames (name_table version ms) m.values.items
