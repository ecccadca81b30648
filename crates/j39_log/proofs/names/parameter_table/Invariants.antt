use Rattle.std.proofs.Common.{◌≡◌, take}
use Rattle.j39_log.specs.NamedReports.{all_numbered, first_names}
use Rattle.j39_log.specs.inside.NameTables.{names_in}
use Rattle.j39_log.proofs.names.parameter_table.Given as goal

abbrev pub invariant-loop-group : goal.invariant-loop-group
invariant-loop-group l = names_in l.table ≡ first_names (all_numbered (take l.group-index l.groups))
