-- The faults of vehicle files, and why one could not be read.
use Rattle.j39_toml.specs.declared.fault.TableFault.{TableFault}
use Rattle.j39_toml.specs.declared.file_error.FileError.{FileError}
use Rattle.j39_vehicle.specs.declared.reading.key.Key.{Key}
use Rattle.j39_vehicle.specs.declared.reading.place.Table.{Table}

-- what is wrong, and in which table of the vehicle file at which key
abbrev pub VehicleFault : Type 0
VehicleFault = TableFault Table Key

abbrev pub VehicleError : Type 0
VehicleError = FileError VehicleFault
