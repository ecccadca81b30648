use Rattle.std.proofs.Common.{◌≡◌, map, take}
use Rattle.j39_log.specs.NamedReports.{meaning_names}
use Rattle.j39_log.specs.inside.NameTables.{names_in}
use Rattle.j39_log.proofs.names.value_tables.Given as goal

abbrev pub invariant-loop-meaning : goal.invariant-loop-meaning
invariant-loop-meaning l = map names_in l.tables.items ≡ map meaning_names (take l.meaning-index l.meanings)
