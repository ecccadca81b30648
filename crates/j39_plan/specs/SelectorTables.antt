-- The table of a selector, which is known since the fourth version: bits of the payload, and the number by which groups of one PGN are distinguished.
use Rattle.std.specs.Prelude.{◌≡◌, ℕ, ◌-◌, ◌^◌, List, [], ◌∷◌, if◌then◌else◌, Option, Some, None}
use Rattle.std.specs.Option.{option_map_or}
use Rattle.toml.specs.Data.{Members}
use Rattle.j39_signal.specs.declared.selector.Selector.{Selector}
use Rattle.j39_plan.specs.Words.{word_of}
use Rattle.j39_plan.specs.declared.reading.key.Key.TheVariants as key
use Rattle.j39_plan.specs.declared.reading.place.Table.TheVariants as at
use Rattle.j39_plan.specs.PlanErrors.{PlanFault}
use Rattle.j39_plan.specs.declared.reading.version.Version.{Version}
use Rattle.j39_plan.specs.declared.reading.version.Version.TheVariants.{Fourth}
use Rattle.j39_plan.specs.Since.{is_known}
use Rattle.j39_plan.specs.Schema.{PlanRule, number, optional_table, table_of}
use Rattle.j39_toml.specs.Rules.{number_of}
use Rattle.j39_toml.specs.TableFaults.{table_faults}
use Rattle.j39_plan.specs.SignalTables.{byte_rule, bit_rule, start_of}

abbrev pub selector_bits_rule : PlanRule
selector_bits_rule = number key.Bits 1 32 None

-- a number that so many bits hold
abbrev pub selector_value_rule : ℕ → PlanRule
selector_value_rule bits = number key.Value 0 (2 ^ bits - 1) None

abbrev pub selector_rules : Members → List PlanRule
selector_rules ms = byte_rule ∷ bit_rule ∷ selector_bits_rule ∷ selector_value_rule (number_of selector_bits_rule ms) ∷ []

-- the selector that a table reports
pub record DescribesSelector (ms : Members) (w : Selector) : Type 0 where
  pub has_start : w.start ≡ start_of (number_of byte_rule ms) (number_of bit_rule ms)
  pub has_bits : w.bits ≡ number_of selector_bits_rule ms
  pub has_value : w.value ≡ number_of (selector_value_rule (number_of selector_bits_rule ms)) ms

unfoldable pub selector_table_faults : ℕ → Members → List PlanFault
selector_table_faults g ms = table_faults word_of (at.GroupWhen g) (selector_rules ms) ms

-- ---- in the table of a group

abbrev pub when_rule : PlanRule
when_rule = optional_table key.When

-- its table: none in a version that doesn't know it
abbrev pub when_table : Version → Members → Option Members
when_table version ms = if is_known Fourth version then table_of when_rule ms else None

-- where there is a table of it
abbrev pub DescribesWhen : Option Members → Option Selector → Type 0
DescribesWhen None None = Unit {0}
DescribesWhen (Some ms) (Some w) = DescribesSelector ms w
DescribesWhen _ _ = ⊥

abbrev pub when_faults : Version → ℕ → Members → List PlanFault
when_faults version g ms = option_map_or (selector_table_faults g) (when_table version ms) []
