-- The lines of the show command on choices.
use Rattle.std.specs.declared.alloc.Global.{Global}
use Rattle.std.specs.Prelude.{ℕ, ◌==◌, List, [], ◌++◌, Bool, ◌&&◌, if◌then◌else◌, Vec}
use Rattle.std.specs.List.{list_any}
use Rattle.arrayvec.specs.ArrayString.{ArrayString}
use Rattle.j39_load.specs.LineLists.{lines_of_each}
use Rattle.j39_plan.specs.declared.reading.key.Key.{Key}
use Rattle.j39_plan.specs.declared.reading.key.Key.TheVariants as key
use Rattle.j39_plan.specs.declared.reading.place.Table.{Table}
use Rattle.j39_plan.specs.declared.reading.place.Table.TheVariants as at
use Rattle.j39_variants.specs.declared.line.Alternative.{Alternative}
use Rattle.j39_variants.specs.declared.line.Choice.{Choice}
use Rattle.j39_variants.specs.declared.line.ProductLine.{ProductLine}
use Rattle.j39_variants.specs.declared.reading.item.ListedItem.{ListedItem}
use Rattle.j39_variants.specs.declared.reading.item.ListedItem.TheVariants as items
use Rattle.j39_variants.specs.ListTables.{item_table}
use Rattle.j39_plan_text.specs.ShowText.{value_line}

-- an alternative of a choice
unfoldable pub alternative_line : ℕ → ℕ → ArrayString → List ℕ
alternative_line c p label = value_line (at.Choice c) key.Of label.bytes

unfoldable pub choice_lines : ℕ → Choice → List ℕ
choice_lines c choice = lines_of_each (alternative_line c) 0 choice.alternatives.items

-- an alternative of a choice, where a list names it
unfoldable pub named_line : Table → Key → List Alternative → ℕ → ℕ → ArrayString → List ℕ
named_line table k list c p label = if list_any (λ a. (a.choice == c) && (a.place == p)) list then value_line table k label.bytes else []

unfoldable pub named_alternative_lines : Table → Key → List Alternative → ℕ → Choice → List ℕ
named_alternative_lines table k list c choice = lines_of_each (named_line table k list c) 0 choice.alternatives.items

-- the alternatives that a list names, in the order of the choices
unfoldable pub list_lines : List Choice → Table → Key → List Alternative → List ℕ
list_lines choices table k list = lines_of_each (named_alternative_lines table k list) 0 choices

unfoldable pub never_lines : List Choice → ℕ → Vec Alternative Global → List ℕ
never_lines choices n list = list_lines choices (at.Never n) key.Of list.items

unfoldable pub item_lines : List Choice → ListedItem → ℕ → Vec Alternative Global → List ℕ
item_lines choices item i list = list_lines choices (item_table item i) key.With list.items

unfoldable pub items_lines : List Choice → ListedItem → List (Vec Alternative Global) → List ℕ
items_lines choices item lists = lines_of_each (item_lines choices item) 0 lists

unfoldable pub lists_lines : ProductLine → List ℕ
lists_lines line =
    items_lines line.choices.items items.Unit line.lists.units.items ++ (items_lines line.choices.items items.Group line.lists.groups.items
    ++ (items_lines line.choices.items items.Flow line.lists.flows.items ++ (items_lines line.choices.items items.Need line.lists.needs.items
    ++ items_lines line.choices.items items.Request line.lists.requests.items)))

-- each choice, each box that isn't built, and with which alternatives each unit, group, flow, need and request goes
unfoldable pub choices_lines : ProductLine → List ℕ
choices_lines line =
    lines_of_each choice_lines 0 line.choices.items ++ (lines_of_each (never_lines line.choices.items) 0 line.nevers.items ++ lists_lines line)
