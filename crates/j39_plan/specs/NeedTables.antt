-- The tables of needs, which the fourth version alone knows.
use Rattle.std.specs.Prelude.{◌≡◌, ℕ, List, [], ◌∷◌, ◌++◌, Option, Some, None, option_and_then, unwrap_or, map}
use Rattle.std.specs.List.{slice_get}
use Rattle.std.specs.Option.{option_map_or}
use Rattle.toml.specs.Data.{Data, Items, no_items, item, Members, as_table}
use Rattle.j39_network.specs.declared.plan.group_plan.GroupPlan.{GroupPlan}
use Rattle.j39_network.specs.declared.plan.need_plan.NeedPlan.{NeedPlan}
use Rattle.j39_plan.specs.Words.{word_of}
use Rattle.j39_plan.specs.declared.reading.key.Key.TheVariants as key
use Rattle.j39_plan.specs.declared.reading.place.Table.TheVariants as at
use Rattle.j39_plan.specs.PlanErrors.{PlanFault}
use Rattle.j39_plan.specs.declared.reading.text_kind.TextKind.TheVariants as texts
use Rattle.j39_plan.specs.Schema.{PlanRule, text, optional, optional_text, found_text, given_number}
use Rattle.j39_plan.specs.declared.reading.key.Key.{Key}
use Rattle.j39_toml.specs.TableFaults.{keys_faults, table_only_faults, unknown_faults}
use Rattle.j39_toml.specs.InOrder.{inside}
use Rattle.j39_plan.specs.GroupTables.{signal_labels}
use Rattle.j39_plan.specs.FlowTables.{place_of, place_faults}

abbrev pub need_unit_rule : PlanRule
need_unit_rule = text key.Unit texts.Any None

abbrev pub need_group_rule : PlanRule
need_group_rule = text key.Group texts.Any None

abbrev pub need_signal_rule : PlanRule
need_signal_rule = optional_text key.Signal

-- without this key any other unit may send it
abbrev pub need_from_rule : PlanRule
need_from_rule = optional_text key.From

abbrev pub within_rule : PlanRule
within_rule = optional key.Within 1 65535

abbrev pub need_rules : List PlanRule
need_rules = need_unit_rule ∷ need_group_rule ∷ need_signal_rule ∷ need_from_rule ∷ within_rule ∷ []

-- the keys of a need, the alternatives with which it is asked for too
abbrev pub need_keys : List Key
need_keys = key.Unit ∷ key.Group ∷ key.Signal ∷ key.From ∷ key.Within ∷ key.With ∷ []

-- the labels of the signals of each group
unfoldable pub signals_of_groups : Items → List (List (List ℕ))
signals_of_groups no_items = []
signals_of_groups (item d ds) = signal_labels (inside d) ∷ signals_of_groups ds

-- those of the group at a place
abbrev pub signals_at : List (List (List ℕ)) → Option ℕ → List (List ℕ)
signals_at signals None = []
signals_at signals (Some g) = unwrap_or (slice_get signals g) []

-- those of a group that is read
abbrev pub signal_texts : Option GroupPlan → List (List ℕ)
signal_texts None = []
signal_texts (Some group) = map (λ s. s.label.bytes) group.signals.items

-- the group that a table names, by the labels of the groups
abbrev pub named_group : List (List ℕ) → Members → Option ℕ
named_group groups ms = option_and_then (place_of groups) (found_text need_group_rule ms)

-- the need that a table reports, by the labels of the groups, of the signals of each, and of the units
pub record DescribesNeed (groups : List (List ℕ)) (signals : List (List (List ℕ))) (units : List (List ℕ)) (ms : Members) (d : NeedPlan) : Type 0 where
  pub has_unit : option_and_then (place_of units) (found_text need_unit_rule ms) ≡ Some d.unit
  pub has_group : named_group groups ms ≡ Some d.group
  pub has_signal : d.signal ≡ option_and_then (place_of (signals_at signals (Some d.group))) (found_text need_signal_rule ms)
  pub has_from : d.from ≡ option_and_then (place_of units) (found_text need_from_rule ms)
  pub has_within : d.within ≡ given_number within_rule ms

abbrev pub IsNeedOf : List (List ℕ) → List (List (List ℕ)) → List (List ℕ) → Data → NeedPlan → Type 0
IsNeedOf groups signals units d need = DescribesNeed groups signals units (inside d) need

-- behind the faults of the keys, texts that name no unit, no group, no signal of this group and no unit
unfoldable pub need_table_faults : List (List ℕ) → List (List (List ℕ)) → List (List ℕ) → ℕ → Members → List PlanFault
need_table_faults groups signals units i ms = (unknown_faults word_of (at.Need i) need_keys ms ++ keys_faults (at.Need i) ms need_rules)
    ++ (place_faults (at.Need i) key.Unit units (found_text need_unit_rule ms)
    ++ (place_faults (at.Need i) key.Group groups (found_text need_group_rule ms)
    ++ (place_faults (at.Need i) key.Signal (signals_at signals (named_group groups ms)) (found_text need_signal_rule ms)
    ++ place_faults (at.Need i) key.From units (found_text need_from_rule ms))))

-- the faults of the i-th need
unfoldable pub need_faults : List (List ℕ) → List (List (List ℕ)) → List (List ℕ) → ℕ → Data → List PlanFault
need_faults groups signals units i d =
    table_only_faults (at.Need i) d ++ option_map_or (need_table_faults groups signals units i) (as_table d) []
