use Rattle.std.proofs.Common.{◌≡◌, take}
use Rattle.j39_log.specs.NamedReports.{value_names}
use Rattle.j39_log.specs.inside.NameTables.{names_in}
use Rattle.j39_log.proofs.names.value_table.Given as goal

abbrev pub invariant-loop-named : goal.invariant-loop-named
invariant-loop-named l = names_in l.table ≡ value_names (take l.named-index l.values)
