-- No room is asked for of an empty tree: the version is missing in it.
use Rattle.std.proofs.Common.{◌≢◌, []}
use Rattle.toml.specs.Data.{no_members}
use Rattle.j39_toml.specs.TableFaults.{unknown_faults, key_faults}
use Rattle.j39_vehicle.specs.VehicleFaults.{top_faults}
use Rattle.j39_vehicle.specs.Growing.{FileGrows}

empty_faults : top_faults no_members ≢ []
unfolding unknown_faults key_faults
empty_faults none = cc

pub never_grows : ¬ FileGrows no_members
never_grows grows = empty_faults grows.0
