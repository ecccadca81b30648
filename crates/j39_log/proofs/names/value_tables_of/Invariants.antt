use Rattle.std.proofs.Common.{◌≡◌, map, take}
use Rattle.j39_log.specs.inside.NameTables.{names_of_tables, value_names_of}
use Rattle.j39_log.proofs.names.value_tables_of.Given as goal

abbrev pub invariant-loop-group : goal.invariant-loop-group
invariant-loop-group l = map names_of_tables l.tables.items ≡ map value_names_of (take l.group-index l.groups)
