-- The tables of groups. Since the third version it is known whether a group's number is a maker's own, the length of its longest messages, how far apart
-- its records stand, and texts; since the fourth, selectors.
use Rattle.std.specs.Prelude.{◌≡◌, ℕ, List, [], ◌++◌, ◌∷◌, Bool, false, if◌then◌else◌, Option, Some, None, is_some}
use Rattle.std.specs.Option.{option_map_or}
use Rattle.toml.specs.Data.{Data, Items, no_items, Members, as_table}
use Rattle.j39_plan.specs.Words.{word_of}
use Rattle.j39_id.specs.Limits.{message_bytes}
use Rattle.j39_network.specs.PlanLimits.{signal_limit, text_limit}
use Rattle.j39_network.specs.declared.plan.group_plan.GroupPlan.{GroupPlan}
use Rattle.j39_plan.specs.declared.reading.key.Key.TheVariants as key
use Rattle.j39_plan.specs.declared.reading.place.Table.TheVariants as at
use Rattle.j39_plan.specs.PlanErrors.{PlanFault}
use Rattle.j39_plan.specs.declared.reading.text_kind.TextKind.TheVariants as texts
use Rattle.j39_plan.specs.Schema.{PlanRule, number, optional, flag, tables, given_number, tables_of}
use Rattle.j39_toml.specs.Rules.{number_of, flag_of, text_of}
use Rattle.j39_toml.specs.TableFaults.{table_only_faults, unknown_faults}
use Rattle.j39_toml.specs.InOrder.{inside, each_faults, labels_of, Each}
use Rattle.j39_plan.specs.LabelsSeen.{repeated_faults, label_in, label_rule}
use Rattle.j39_plan.specs.Since.{Since, since, is_known, known, rules_of, keys_of, known_keys, known_faults, with_key}
use Rattle.j39_plan.specs.declared.reading.version.Version.{Version}
use Rattle.j39_plan.specs.declared.reading.version.Version.TheVariants.{First, Third, Fourth}
use Rattle.j39_plan.specs.SelectorTables.{DescribesWhen, when_faults, when_rule, when_table}
use Rattle.j39_plan.specs.SignalTables.{IsMeaningOf, IsSignalOf, signal_faults}
use Rattle.j39_plan.specs.TextTables.{IsTextOf, text_faults}

abbrev pub pgn_rule : PlanRule
pgn_rule = number key.Pgn 0 16777215 None

abbrev pub priority_rule : PlanRule
priority_rule = number key.Priority 0 7 None

abbrev pub length_rule : PlanRule
length_rule = number key.Length 1 message_bytes None

abbrev pub private_rule : PlanRule
private_rule = flag key.Private false

-- at least the length of the shortest, which it is without the key
abbrev pub most_rule : ℕ → PlanRule
most_rule length = number key.Most length message_bytes (Some length)

-- without the key the group has no records
abbrev pub every_rule : PlanRule
every_rule = optional key.Every 1 255

abbrev pub signal_rule : PlanRule
signal_rule = tables key.Signal signal_limit

abbrev pub text_rule : PlanRule
text_rule = tables key.Text text_limit

-- behind the length, by the length
abbrev pub later_rules : ℕ → List Since
later_rules length =
    since Third private_rule
    ∷ since Third (most_rule length)
    ∷ since Third every_rule
    ∷ since Fourth when_rule
    ∷ []

abbrev pub first_rules : Members → List Since
first_rules ms =
    since First label_rule
    ∷ since First pgn_rule
    ∷ since First priority_rule
    ∷ since First length_rule
    ∷ later_rules (number_of length_rule ms)

-- the arrays
abbrev pub inner_rules : List Since
inner_rules =
    since First signal_rule
    ∷ since Third text_rule
    ∷ []

abbrev pub group_rules : Members → List Since
group_rules ms = first_rules ms ++ inner_rules

-- whether the number is a maker's own: it isn't in a version that doesn't know it
abbrev pub private_of : Version → Members → Bool
private_of version ms = if is_known Third version then flag_of private_rule ms else false

-- the length of its longest messages: that of all in a version that doesn't know several
abbrev pub most_of : Version → ℕ → Members → ℕ
most_of version length ms = if is_known Third version then number_of (most_rule length) ms else length

-- how far apart its records stand: it has none in a version that doesn't know them
abbrev pub every_of : Version → Members → Option ℕ
every_of version ms = if is_known Third version then given_number every_rule ms else None

abbrev pub has_records : Version → Members → Bool
has_records version ms = is_some (every_of version ms)

-- the tables of its texts: none in a version that doesn't know them
abbrev pub text_tables_of : Version → Members → Items
text_tables_of version ms = if is_known Third version then tables_of text_rule ms else no_items

-- the group that a table reports
pub record DescribesGroup (version : Version) (ms : Members) (g : GroupPlan) : Type 0 where
  pub has_label : g.label.bytes ≡ text_of label_rule ms
  pub has_pgn : g.pgn ≡ number_of pgn_rule ms
  pub has_priority : g.priority ≡ number_of priority_rule ms
  pub has_length : g.length ≡ number_of length_rule ms
  pub has_private : g.private ≡ private_of version ms
  pub has_most : g.most ≡ most_of version (number_of length_rule ms) ms
  pub has_every : g.every ≡ every_of version ms
  pub has_when : DescribesWhen (when_table version ms) g.when
  pub has_signals : Each (IsSignalOf version) (tables_of signal_rule ms) g.signals.items
  pub has_meanings : Each (IsMeaningOf version) (tables_of signal_rule ms) g.meanings.items
  pub has_texts : Each IsTextOf (text_tables_of version ms) g.texts.items

-- before the third version a group has these keys
abbrev pub OlderGroupRules : Type 0
OlderGroupRules = (version : Version) (ms : Members) → is_known Third version ≡ false
    → rules_of (known version (group_rules ms)) ≡ label_rule ∷ pgn_rule ∷ priority_rule ∷ length_rule ∷ signal_rule ∷ []

-- and its messages have one length and no records
abbrev pub OlderLengths : Type 0
OlderLengths = (version : Version) (ms : Members) (g : GroupPlan) → is_known Third version ≡ false → DescribesGroup version ms g
    → (g.most ≡ g.length) × (g.every ≡ None)

abbrev pub IsGroupOf : Version → Data → GroupPlan → Type 0
IsGroupOf version d g = DescribesGroup version (inside d) g

abbrev pub signals_faults : Version → ℕ → Members → List PlanFault
signals_faults version g ms = each_faults (signal_faults version (has_records version ms) g) label_in 0 [] (tables_of signal_rule ms)

-- of its texts, whose labels none of its signals may have either
abbrev pub signal_labels : Members → List (List ℕ)
signal_labels ms = labels_of label_in (tables_of signal_rule ms)

abbrev pub texts_faults : Version → ℕ → Members → List PlanFault
texts_faults version g ms = each_faults (text_faults (signal_labels ms) g) label_in 0 [] (text_tables_of version ms)

-- of its keys: the table of the selector is read whole behind the key, and before the arrays
abbrev pub group_keys_faults : Version → ℕ → Members → List PlanFault
group_keys_faults version g ms =
    unknown_faults word_of (at.Group g) (known_keys version (keys_of (group_rules ms) ++ with_key)) ms
    ++ (known_faults (at.Group g) version ms (first_rules ms)
    ++ (when_faults version g ms ++ known_faults (at.Group g) version ms inner_rules))

unfoldable pub group_table_faults : Version → ℕ → Members → List PlanFault
group_table_faults version g ms =
    group_keys_faults version g ms ++ (signals_faults version g ms ++ texts_faults version g ms)

-- the faults of the g-th group, behind those with the labels seen
unfoldable pub group_faults : Version → ℕ → List (List ℕ) → Data → List PlanFault
group_faults version g seen d = table_only_faults (at.Group g) d
    ++ option_map_or (group_table_faults version g) (as_table d) []
    ++ repeated_faults (at.Group g) texts.Label seen (label_in d)
