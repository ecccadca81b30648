-- Lists of alternatives, by their labels.
use Rattle.std.specs.declared.alloc.Global.{Global}
use Rattle.std.specs.Prelude.{Vec, ◌≡◌, ℕ, ◌+◌, ◌==◌, List, [], ◌∷◌, ◌++◌, length, Bool, false, not, ◌&&◌, ◌||◌, if◌then◌else◌, Option, Some, None, is_some, option_map, option_and_then}
use Rattle.std.specs.Prelude.{nat_le, position, unwrap_or}
use Rattle.std.specs.List.{list_any, slice_get}
use Rattle.std.specs.Option.{option_map_or}
use Rattle.toml.specs.Data.{Data, string, integer, float, boolean, datetime, array, table, Members, as_str, as_table}
use Rattle.j39_id.specs.LabelForm.{is_label}
use Rattle.j39_toml.specs.declared.cause.Cause.{Cause}
use Rattle.j39_toml.specs.declared.cause.Cause.TheVariants.{WrongType, Range, Repeated, UnknownLabel}
use Rattle.j39_toml.specs.InOrder.{Each, each_faults, inside}
use Rattle.j39_toml.specs.Rules.{Rule, rule_of, items_count, elements_found}
use Rattle.j39_toml.specs.TableFaults.{fault, key_faults, table_only_faults}
use Rattle.j39_plan.specs.declared.reading.key.Key.{Key}
use Rattle.j39_plan.specs.declared.reading.key.Key.TheVariants as key
use Rattle.j39_plan.specs.declared.reading.place.Table.{Table}
use Rattle.j39_plan.specs.declared.reading.place.Table.TheVariants as at
use Rattle.j39_plan.specs.FlowTables.{place_of}
use Rattle.j39_plan.specs.LabelsSeen.{is_label_among}
use Rattle.j39_plan.specs.PlanErrors.{PlanFault}
use Rattle.j39_plan.specs.Schema.{PlanRule}
use Rattle.j39_plan.specs.Words.{word_of}
use Rattle.j39_variants.specs.declared.line.Alternative.{Alternative}
use Rattle.j39_variants.specs.declared.reading.item.ListedItem.{ListedItem}
use Rattle.j39_variants.specs.declared.reading.lists.NamedAlternative.{NamedAlternative}
use Rattle.j39_variants.specs.declared.reading.item.ListedItem.TheVariants as items

-- an array of at least so many elements
unfoldable pub array_from : ℕ → Data → Option Cause
array_from least (array ds) = if nat_le least (items_count ds) then None else Some Range
array_from least _ = Some WrongType

-- a list of at least so many labels, or one that may be absent
abbrev pub list_rule : Key → ℕ → Bool → PlanRule
list_rule k least is_required = rule_of word_of k (array_from least) is_required

-- a text, and none of another value
abbrev pub label_text_in : Data → List ℕ
label_text_in d = unwrap_or (as_str d) []

-- the place of a label's choice, and its place in this choice, by the labels of each choice
abbrev pub place_in : List (List (List ℕ)) → List ℕ → ℕ → Option (ℕ × ℕ)
place_in choices label c =
    option_map (λ p. (c, p)) (option_and_then (λ labels. place_of labels label) (slice_get choices c))

unfoldable pub named_in : List (List (List ℕ)) → List ℕ → Option (ℕ × ℕ)
named_in choices label = option_and_then (place_in choices label) (position (λ labels. is_label_among labels label) choices)

-- the choice of a label, where it is that of an alternative
abbrev pub choice_named : List (List (List ℕ)) → List ℕ → Option ℕ
choice_named choices label = option_map (λ p. p.0) (named_in choices label)

-- the first of some labels is that of an alternative of another choice
abbrev pub is_of_another : List (List (List ℕ)) → ℕ → List (List ℕ) → Bool
is_of_another choices c [] = false
is_of_another choices c (label ∷ seen) = not (option_map_or (λ d. d == c) (choice_named choices label) false)

-- the number of alternatives of a choice
abbrev pub size_of : List (List (List ℕ)) → ℕ → ℕ
size_of choices c = option_map_or (λ labels. length labels) (slice_get choices c) 0

-- an alternative of a choice can't be named behind those of the labels seen, beside others of some choices: it is of another choice than the
-- first one, the others name some of its choice, or with it all of its choice are named
unfoldable pub is_misplaced : List (List (List ℕ)) → List ℕ → List (List ℕ) → ℕ → Bool
is_misplaced choices others seen c =
    is_of_another choices c seen || (list_any (λ d. d == c) others || nat_le (size_of choices c) (length seen + 1))

-- in a list of alternatives of one choice, beside others of some choices, a text that can't be named behind the labels seen
abbrev pub misplaced_faults : Table → Key → List (List (List ℕ)) → Option (List ℕ) → List (List ℕ) → List ℕ → List PlanFault
misplaced_faults at k choices None seen label = []
misplaced_faults at k choices (Some others) seen label =
    if option_map_or (is_misplaced choices others seen) (choice_named choices label) false then fault Range at (Some k) ∷ [] else []

-- the faults of a text of a list: it names no alternative, or one that was named before in the list
unfoldable pub named_faults : Table → Key → List (List (List ℕ)) → List (List ℕ) → List ℕ → List PlanFault
named_faults at k choices seen label =
    if is_label label && is_some (named_in choices label)
    then (if is_label_among seen label then fault Repeated at (Some k) ∷ [] else [])
    else fault UnknownLabel at (Some k) ∷ []

-- of an element of a list, behind those of the labels seen; beside others all are to be of one choice
unfoldable pub element_faults : Table → Key → List (List (List ℕ)) → Option (List ℕ) → ℕ → List (List ℕ) → Data → List PlanFault
element_faults at k choices others i seen (string s) = named_faults at k choices seen s ++ misplaced_faults at k choices others seen s
element_faults at k choices others i seen _ = fault WrongType at (Some k) ∷ []

-- of what stands at a key of a table
abbrev pub list_faults : Table → PlanRule → List (List (List ℕ)) → Option (List ℕ) → Members → List PlanFault
list_faults at r choices others ms =
    key_faults at ms r ++ each_faults (element_faults at r.key choices others) label_text_in 0 [] (elements_found word_of r.key ms)

-- the alternative that a text names, with it
pub record IsNamed (choices : List (List (List ℕ))) (label : List ℕ) (n : NamedAlternative) : Type 0 where
  pub has_label : n.label.bytes ≡ label
  pub has_place : named_in choices label ≡ Some (n.at.choice, n.at.place)

abbrev pub IsNamedBy : List (List (List ℕ)) → Data → NamedAlternative → Type 0
IsNamedBy choices d n = IsNamed choices (label_text_in d) n

-- the alternative that an element names
abbrev pub NamesAlternative : List (List (List ℕ)) → Data → Alternative → Type 0
NamesAlternative choices d a = named_in choices (label_text_in d) ≡ Some (a.choice, a.place)

-- the list at a key
abbrev pub IsList : Key → List (List (List ℕ)) → Members → List Alternative → Type 0
IsList k choices ms list = Each (NamesAlternative choices) (elements_found word_of k ms) list

-- ---- what is there with some alternatives

abbrev pub with_rule : PlanRule
with_rule = list_rule key.With 1 false

-- the table of the element of a place
abbrev pub item_table : ListedItem → ℕ → Table
item_table items.Unit i = at.Unit i
item_table items.Group i = at.Group i
item_table items.Flow i = at.Flow i
item_table items.Need i = at.Need i
item_table items.Request i = at.Request i

unfoldable pub with_faults : ListedItem → List (List (List ℕ)) → ℕ → Data → List PlanFault
with_faults item choices i d =
    table_only_faults (item_table item i) d ++ option_map_or (list_faults (item_table item i) with_rule choices None) (as_table d) []

abbrev pub IsWith : List (List (List ℕ)) → Data → Vec Alternative Global → Type 0
IsWith choices d v = IsList key.With choices (inside d) v.items
