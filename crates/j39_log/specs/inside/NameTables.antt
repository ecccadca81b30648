-- The names of a plan as the reader of a log keeps them.
use Rattle.std.specs.Prelude.{◌≡◌, ◌==◌, ℕ, nat_eq, Bool, ◌&&◌, List, ◌++◌, length, map, Option, Some, None, is_none, if◌then◌else◌, codes}
use Rattle.std.specs.declared.alloc.Global.{Global}
use Rattle.std.specs.declared.vec.Vec.{Vec}
use Rattle.std.specs.HashMap.{get}
use Rattle.std.specs.List.{list_all, zip}
use Rattle.std.specs.Option.{option_or}
use Rattle.j39_signal.specs.declared.signal_parts.SignalParts.{SignalParts}
use Rattle.j39_network.specs.declared.plan.Plan.{Plan}
use Rattle.j39_network.specs.declared.plan.group_plan.GroupPlan.{GroupPlan}
use Rattle.j39_network.specs.declared.plan.meaning.Meaning.{Meaning}
use Rattle.j39_log.specs.LogReports.{reading_lines}
use Rattle.j39_log.specs.NamedReports.{HasNoMeanings, NamedSignal, NumberNames, named_lines, meaning_names, parameter_names}
use Rattle.j39_log.specs.declared.name_table.NameTable.{NameTable}
use Rattle.j39_log.specs.declared.names.GroupNames.{GroupNames}
use Rattle.j39_log.specs.declared.names.PlanNames.{PlanNames}

abbrev pub names_in : NameTable → NumberNames
names_in table = get nat_eq table.names

-- the names, and that of one more number, unless it has one
abbrev pub with_name : NumberNames → ℕ → List ℕ → NumberNames
with_name names number name n = option_or (names n) (if nat_eq number n then Some name else None)

abbrev pub names_of_tables : Vec NameTable Global → List NumberNames
names_of_tables tables = map names_in tables.items

abbrev pub value_names_of : GroupPlan → List NumberNames
value_names_of group = map meaning_names group.meanings.items

abbrev pub signal_name : GroupPlan → SignalParts → List ℕ
signal_name group s = group.label.bytes ++ (codes "." ++ s.label.bytes)

-- no signal of the groups has a number, and none a name of a raw number
abbrev pub has_no_meaning : Meaning → Bool
has_no_meaning m = is_none m.spn && length m.values.items == 0

abbrev pub has_no_meanings : List GroupPlan → Bool
has_no_meanings groups = list_all (λ group. list_all has_no_meaning group.meanings.items) groups

-- the names of a plan, or there are none
abbrev pub AreNamesOf : Plan → Option PlanNames → Type 0
AreNamesOf plan None = HasNoMeanings plan
AreNamesOf plan (Some names) =
    (map names_of_tables names.values.items ≡ map value_names_of plan.groups.items) × (names_in names.parameters ≡ parameter_names plan)

-- those of a group of it
abbrev pub AreGroupNames : Plan → GroupPlan → Option GroupNames → Type 0
AreGroupNames plan group None = HasNoMeanings plan
AreGroupNames plan group (Some names) =
    (map names_in names.values.now ≡ value_names_of group) × (names_in names.parameters.now ≡ parameter_names plan)

-- signals with the names of tables
abbrev pub named_by : List NameTable → List SignalParts → List NamedSignal
named_by tables signals = zip signals (map names_in tables)

-- there is a table for each signal of the group
abbrev pub HasTables : GroupPlan → Option GroupNames → Type 0
HasTables group None = Unit {0}
HasTables group (Some names) = length names.values.now ≡ length group.signals.items

-- what a group reads by these names
abbrev pub lines_by : Option GroupNames → GroupPlan → List ℕ → List ℕ
lines_by None group bytes = reading_lines group bytes
lines_by (Some names) group bytes =
    named_lines (names_in names.parameters.now) (named_by names.values.now group.signals.items) group bytes
