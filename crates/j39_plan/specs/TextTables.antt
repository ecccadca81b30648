-- The tables of texts, which the third version alone knows.
use Rattle.std.specs.Prelude.{◌≡◌, ℕ, List, ◌∷◌, ◌++◌, []}
use Rattle.std.specs.Option.{option_map_or}
use Rattle.toml.specs.Data.{Data, Members, as_table}
use Rattle.j39_id.specs.Limits.{message_bytes}
use Rattle.j39_network.specs.declared.plan.text_plan.TextPlan.{TextPlan}
use Rattle.j39_plan.specs.Words.{word_of}
use Rattle.j39_plan.specs.declared.reading.key.Key.TheVariants as key
use Rattle.j39_plan.specs.declared.reading.place.Table.{Table}
use Rattle.j39_plan.specs.declared.reading.place.Table.TheVariants as at
use Rattle.j39_plan.specs.PlanErrors.{PlanFault}
use Rattle.j39_plan.specs.declared.reading.text_kind.TextKind.TheVariants as texts
use Rattle.j39_plan.specs.Schema.{PlanRule, optional, given_number}
use Rattle.j39_toml.specs.Rules.{number_of, text_of}
use Rattle.j39_toml.specs.TableFaults.{table_faults, table_only_faults}
use Rattle.j39_toml.specs.InOrder.{inside}
use Rattle.j39_plan.specs.LabelsSeen.{label_in, label_rule, repeated_faults}
use Rattle.j39_plan.specs.SignalTables.{byte_rule}

abbrev pub bytes_rule : PlanRule
bytes_rule = optional key.Bytes 1 message_bytes

abbrev pub text_rules : List PlanRule
text_rules = label_rule ∷ byte_rule ∷ bytes_rule ∷ []

-- the text that a table reports
pub record DescribesText (ms : Members) (t : TextPlan) : Type 0 where
  pub has_label : t.label.bytes ≡ text_of label_rule ms
  pub has_byte : t.byte ≡ number_of byte_rule ms
  pub has_bytes : t.bytes ≡ given_number bytes_rule ms

abbrev pub IsTextOf : Data → TextPlan → Type 0
IsTextOf d t = DescribesText (inside d) t

unfoldable pub text_table_faults : Table → Members → List PlanFault
text_table_faults at ms = table_faults word_of at text_rules ms

-- the faults of the i-th text of the g-th group, behind signals with some labels and texts with those seen
unfoldable pub text_faults : List (List ℕ) → ℕ → ℕ → List (List ℕ) → Data → List PlanFault
text_faults taken g i seen d = table_only_faults (at.Text g i) d
    ++ option_map_or (text_table_faults (at.Text g i)) (as_table d) []
    ++ repeated_faults (at.Text g i) texts.Label (taken ++ seen) (label_in d)
