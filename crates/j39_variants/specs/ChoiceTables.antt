-- The tables of choices.
use Rattle.std.specs.Prelude.{◌≡◌, ℕ, ◌-◌, List, [], ◌∷◌, ◌++◌, Bool, true, ◌||◌, map, length, if◌then◌else◌, not, Some, nat_le}
use Rattle.std.specs.List.{list_any}
use Rattle.std.specs.Option.{option_map_or}
use Rattle.toml.specs.Data.{Data, string, Members, as_table}
use Rattle.arrayvec.specs.ArrayString.{ArrayString}
use Rattle.j39_id.specs.LabelForm.{is_label}
use Rattle.j39_toml.specs.declared.cause.Cause.TheVariants.{WrongType, Range, Repeated, TooMany}
use Rattle.j39_toml.specs.InOrder.{Each, each_faults, inside, labels_of}
use Rattle.j39_toml.specs.Rules.{elements_found}
use Rattle.j39_toml.specs.TableFaults.{fault, key_faults, table_only_faults, unknown_faults}
use Rattle.j39_plan.specs.declared.reading.key.Key.TheVariants as key
use Rattle.j39_plan.specs.declared.reading.place.Table.{Table}
use Rattle.j39_plan.specs.declared.reading.place.Table.TheVariants as at
use Rattle.j39_plan.specs.LabelsSeen.{is_label_among}
use Rattle.j39_plan.specs.PlanErrors.{PlanFault}
use Rattle.j39_plan.specs.Schema.{PlanRule}
use Rattle.j39_plan.specs.Words.{word_of}
use Rattle.j39_variants.specs.declared.line.Choice.{Choice}
use Rattle.j39_variants.specs.ListTables.{list_rule, label_text_in}

-- the most alternatives of a plan
abbrev pub alternative_limit : ℕ
alternative_limit = 64

-- the labels of the alternatives of a choice
abbrev pub choice_labels : Choice → List (List ℕ)
choice_labels c = map (λ l. l.bytes) c.alternatives.items

-- how many more alternatives there may be behind those of some choices
unfoldable pub room_behind : ℕ → List (List (List ℕ)) → ℕ
room_behind room [] = room
room_behind room (c ∷ cs) = room_behind (room - length c) cs

-- an earlier alternative of the plan has the label: one of an earlier choice, or of this one
abbrev pub is_taken : List (List (List ℕ)) → List (List ℕ) → List ℕ → Bool
is_taken choices seen label = list_any (λ labels. is_label_among labels label) choices || is_label_among seen label

unfoldable pub new_label_faults : Table → List (List (List ℕ)) → List (List ℕ) → List ℕ → List PlanFault
new_label_faults at choices seen label =
    if not (is_label label) then fault Range at (Some key.Of) ∷ []
    else if is_taken choices seen label then fault Repeated at (Some key.Of) ∷ []
    else if nat_le (room_behind alternative_limit choices) (length seen) then fault TooMany at (Some key.Of) ∷ []
    else []

-- the faults of an element of a choice, behind those of the labels seen, and behind some choices
unfoldable pub alternative_faults : Table → List (List (List ℕ)) → ℕ → List (List ℕ) → Data → List PlanFault
alternative_faults at choices i seen (string s) = new_label_faults at choices seen s
alternative_faults at choices i seen _ = fault WrongType at (Some key.Of) ∷ []

-- a choice has at least two alternatives
abbrev pub alternatives_rule : PlanRule
alternatives_rule = list_rule key.Of 2 true

-- the labels that the table of a choice reports
abbrev pub choice_labels_in : Data → List (List ℕ)
choice_labels_in d = labels_of label_text_in (elements_found word_of key.Of (inside d))

unfoldable pub choice_table_faults : ℕ → List (List (List ℕ)) → Members → List PlanFault
choice_table_faults i seen ms = unknown_faults word_of (at.Choice i) (key.Of ∷ []) ms
    ++ (key_faults (at.Choice i) ms alternatives_rule
    ++ each_faults (alternative_faults (at.Choice i) seen) label_text_in 0 [] (elements_found word_of key.Of ms))

-- the faults of the i-th choice, behind those with the labels seen
unfoldable pub choice_faults : ℕ → List (List (List ℕ)) → Data → List PlanFault
choice_faults i seen d =
    table_only_faults (at.Choice i) d ++ option_map_or (choice_table_faults i seen) (as_table d) []

-- the label that an element reports
abbrev pub IsLabelOf : Data → ArrayString → Type 0
IsLabelOf d l = l.bytes ≡ label_text_in d

-- the choice that a table reports
pub record DescribesChoice (ms : Members) (c : Choice) : Type 0 where
  pub has_alternatives : Each IsLabelOf (elements_found word_of key.Of ms) c.alternatives.items
  pub has_labels : choice_labels c ≡ labels_of label_text_in (elements_found word_of key.Of ms)

abbrev pub IsChoiceOf : Data → Choice → Type 0
IsChoiceOf d c = DescribesChoice (inside d) c
