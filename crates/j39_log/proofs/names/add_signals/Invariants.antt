use Rattle.std.proofs.Common.{◌≡◌, ◌++◌, List, take}
use Rattle.j39_log.specs.NamedReports.{Numbered, first_names, numbered_signals}
use Rattle.j39_log.specs.inside.NameTables.{names_in}
use Rattle.j39_log.proofs.names.add_signals.Given as goal

abbrev pub invariant-loop-place : goal.invariant-loop-place
invariant-loop-place l = (before : List Numbered) → names_in l.initial.table ≡ first_names before
    → names_in l.table ≡ first_names (before ++ take l.place (numbered_signals l.group))
