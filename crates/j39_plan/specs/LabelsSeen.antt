-- Labels of tables, and those that an earlier one has.
use Rattle.std.specs.Prelude.{ℕ, List, [], ◌∷◌, Bool, ◌&&◌, if◌then◌else◌, Some, None}
use Rattle.std.specs.List.{list_any}
use Rattle.std.specs.Str.{bytes_eq}
use Rattle.toml.specs.Data.{Data}
use Rattle.j39_toml.specs.declared.cause.Cause.TheVariants.{Repeated}
use Rattle.j39_plan.specs.declared.reading.key.Key.TheVariants as key
use Rattle.j39_plan.specs.declared.reading.place.Table.{Table}
use Rattle.j39_plan.specs.PlanErrors.{PlanFault}
use Rattle.j39_plan.specs.declared.reading.text_kind.TextKind.{TextKind}
use Rattle.j39_plan.specs.declared.reading.text_kind.TextKind.TheVariants as texts
use Rattle.j39_plan.specs.Schema.{PlanRule, text}
use Rattle.j39_toml.specs.Rules.{text_of}
use Rattle.j39_toml.specs.InOrder.{inside}
use Rattle.j39_plan.specs.TextKinds.{takes}
use Rattle.j39_toml.specs.TableFaults.{fault}

-- the label of a group, a signal or a text
abbrev pub label_rule : PlanRule
label_rule = text key.Label texts.Label None

abbrev pub label_in : Data → List ℕ
label_in d = text_of label_rule (inside d)

abbrev pub is_label_among : List (List ℕ) → List ℕ → Bool
is_label_among labels label = list_any (λ l. bytes_eq l label) labels

-- a label, which is one of its kind, that an earlier element has
unfoldable pub repeated_faults : Table → TextKind → List (List ℕ) → List ℕ → List PlanFault
repeated_faults at kind seen label = if takes kind label && is_label_among seen label then fault Repeated at (Some key.Label) ∷ [] else []
