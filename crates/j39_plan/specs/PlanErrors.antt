-- The faults of plan files, and why one could not be read.
use Rattle.j39_toml.specs.declared.fault.TableFault.{TableFault}
use Rattle.j39_toml.specs.declared.file_error.FileError.{FileError}
use Rattle.j39_plan.specs.declared.reading.key.Key.{Key}
use Rattle.j39_plan.specs.declared.reading.place.Table.{Table}

-- what is wrong, and in which table of the plan at which key
abbrev pub PlanFault : Type 0
PlanFault = TableFault Table Key

abbrev pub PlanError : Type 0
PlanError = FileError PlanFault
