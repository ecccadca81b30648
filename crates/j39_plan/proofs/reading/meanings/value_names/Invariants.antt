use Rattle.std.proofs.Common.{◌≡◌, ◌+◌, ◌++◌, List, length, true}
use Rattle.toml.specs.View.{members_view, table_view}
use Rattle.j39_network.specs.declared.plan.meaning.ValueName.{ValueName}
use Rattle.j39_plan.specs.MeaningTables.{AreValueNames}
use Rattle.j39_plan.specs.ValueCauses.{has_labels, has_numbers}
use Rattle.j39_plan.proofs.reading.meanings.value_names.Given as goal

abbrev pub invariant-loop-name : goal.invariant-loop-name
invariant-loop-name l =
    ((more : List ValueName) → AreValueNames (members_view l.name-iterator) more → AreValueNames (table_view l.names) (l.values.items ++ more))
    × (has_numbers l.limit (members_view l.name-iterator) ≡ true)
    × (has_labels (members_view l.name-iterator) ≡ true)
    × (length l.values.items + length l.name-iterator ≡ length l.names.entries)
