-- Which line of vehicles a file describes, and what reading it answers.
use Rattle.std.specs.declared.alloc.Global.{Global}
use Rattle.std.specs.Prelude.{Vec, ◌≡◌, ◌⊎◌, ℕ, List, [], ◌++◌, map, Option, Result}
use Rattle.toml.specs.Data.{Data, Items, Members}
use Rattle.toml.specs.View.{items_view}
use Rattle.j39_plan.specs.declared.reading.top_table.TopTable.{TopTable}
use Rattle.j39_toml.specs.FileTrees.{ReadsTree}
use Rattle.j39_toml.specs.InOrder.{Each, each_faults, labels_of}
use Rattle.j39_toml.specs.Rules.{elements_found}
use Rattle.j39_toml.specs.TableFaults.{key_faults}
use Rattle.j39_plan.specs.declared.reading.key.Key.TheVariants as key
use Rattle.j39_plan.specs.declared.reading.place.Table.TheVariants as at
use Rattle.j39_plan.specs.Described.{DescribesPlan}
use Rattle.j39_plan.specs.Growing.{PlanGrows}
use Rattle.j39_plan.specs.PlanErrors.{PlanError, PlanFault}
use Rattle.j39_plan.specs.PlanFaults.{faults, flows_rule, groups_rule, need_tables, no_label, request_tables, units_rule}
use Rattle.j39_plan.specs.Schema.{PlanRule, tables, tables_of}
use Rattle.j39_plan.specs.Words.{word_of}
use Rattle.j39_variants.specs.declared.line.Alternative.{Alternative}
use Rattle.j39_variants.specs.declared.line.Choice.{Choice}
use Rattle.j39_variants.specs.declared.line.ProductLine.{ProductLine}
use Rattle.j39_variants.specs.declared.line.Lists.{Lists}
use Rattle.j39_variants.specs.declared.reading.item.ListedItem.{ListedItem}
use Rattle.j39_variants.specs.declared.reading.item.ListedItem.TheVariants as items
use Rattle.j39_variants.specs.ChoiceTables.{IsChoiceOf, choice_faults, choice_labels_in}
use Rattle.j39_variants.specs.ListTables.{IsWith, with_faults}
use Rattle.j39_variants.specs.NeverTables.{IsNeverOf, never_faults}

-- at most so many choices, and so many boxes that aren't built
abbrev pub choices_rule : PlanRule
choices_rule = tables key.Choice 32

abbrev pub nevers_rule : PlanRule
nevers_rule = tables key.Never 256

abbrev pub choice_tables : Members → Items
choice_tables tree = elements_found word_of key.Choice tree

abbrev pub never_tables : Members → Items
never_tables tree = elements_found word_of key.Never tree

-- the tables of what may go with alternatives
pub record Tables : Type 0 where
  pub units : Items
  pub groups : Items
  pub flows : Items
  pub needs : Items
  pub requests : Items

abbrev pub tables_found : Members → Tables
tables_found tree = record {
  units = tables_of units_rule tree;
  groups = tables_of groups_rule tree;
  flows = tables_of flows_rule tree;
  needs = need_tables tree;
  requests = request_tables tree;
}

-- those of a top table that was read
abbrev pub tables_in : TopTable → Tables
tables_in t = record {
  units = items_view t.units.now;
  groups = items_view t.groups.now;
  flows = items_view t.flows.now;
  needs = items_view t.later.needs.now;
  requests = items_view t.later.requests.now;
}

-- the labels of the alternatives of each choice
abbrev pub labels_of_choices : Members → List (List (List ℕ))
labels_of_choices tree = labels_of choice_labels_in (choice_tables tree)

unfoldable pub choices_faults : Members → List PlanFault
choices_faults tree = key_faults at.Top tree choices_rule ++ each_faults choice_faults choice_labels_in 0 [] (choice_tables tree)

unfoldable pub nevers_faults : List (List (List ℕ)) → Members → List PlanFault
nevers_faults choices tree =
    key_faults at.Top tree nevers_rule ++ each_faults (λ i seen. never_faults choices i) no_label 0 [] (never_tables tree)

abbrev pub items_faults : ListedItem → List (List (List ℕ)) → Items → List PlanFault
items_faults item choices = each_faults (λ i seen. with_faults item choices i) no_label 0 []

unfoldable pub lists_faults : List (List (List ℕ)) → Tables → List PlanFault
lists_faults choices t = items_faults items.Unit choices t.units
    ++ (items_faults items.Group choices t.groups
    ++ (items_faults items.Flow choices t.flows
    ++ (items_faults items.Need choices t.needs ++ items_faults items.Request choices t.requests)))

-- every fault: those of the plan, and behind them those of choices, of what isn't built, and of what is there with which alternatives
abbrev pub product_line_faults : Members → List PlanFault
product_line_faults tree = faults tree
    ++ (choices_faults tree ++ (nevers_faults (labels_of_choices tree) tree ++ lists_faults (labels_of_choices tree) (tables_found tree)))

abbrev pub AreChoices : Members → List Choice → Type 0
AreChoices tree = Each IsChoiceOf (choice_tables tree)

abbrev pub AreLists : List (List (List ℕ)) → Items → List (Vec Alternative Global) → Type 0
AreLists choices = Each (IsWith choices)

-- with which alternatives each unit, group, flow, need and request goes
pub record DescribesLists (choices : List (List (List ℕ))) (t : Tables) (l : Lists) : Type 0 where
  pub has_units : AreLists choices t.units l.units.items
  pub has_groups : AreLists choices t.groups l.groups.items
  pub has_flows : AreLists choices t.flows l.flows.items
  pub has_needs : AreLists choices t.needs l.needs.items
  pub has_requests : AreLists choices t.requests l.requests.items

pub record DescribesProductLine (tree : Members) (l : ProductLine) : Type 0 where
  pub has_plan : DescribesPlan tree l.plan
  pub has_choices : AreChoices tree l.choices.items
  pub has_nevers : Each (IsNeverOf (labels_of_choices tree)) (never_tables tree) l.nevers.items
  pub has_lists : DescribesLists (labels_of_choices tree) (tables_found tree) l.lists

-- room is asked for in reading the plan, or behind one without a fault
abbrev pub LineGrows : Members → Type 0
LineGrows tree = PlanGrows tree ⊎ (faults tree ≡ [])

-- the line that the tree describes, or its first fault, or that there is no tree, unless memory ran out
abbrev pub ReadsProductLine : Result ProductLine PlanError → Option Members → Type 0
ReadsProductLine = ReadsTree product_line_faults DescribesProductLine
