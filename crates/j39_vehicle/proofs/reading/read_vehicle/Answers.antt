use Rattle.toml.specs.View.{table_view}
use Rattle.j39_toml.proofs.TreesRead.{reads_tree, reads_none, room_asked, room_for_tree}
use Rattle.j39_vehicle.specs.VehicleFaults.{faults}
use Rattle.j39_vehicle.specs.Growing.{FileGrows}
use Rattle.j39_vehicle.specs.Described.{DescribesFile}
use Rattle.j39_vehicle.proofs.EmptyFile.{never_grows}
use Rattle.j39_vehicle.proofs.reading.read_vehicle.Goals as goal

pub returns-in-Ok-clause-reads : goal.returns-in-Ok-clause-reads
returns-in-Ok-clause-reads c = reads_tree faults DescribesFile _ _ _ _ c.in-Ok.ensures c.read_top.ensures

pub returns-in-Ok-clause-memory : goal.returns-in-Ok-clause-memory
returns-in-Ok-clause-memory c = room_asked faults DescribesFile FileGrows _ c.args.bytes.now _ never_grows c.in-Ok.ensures c.read_top.ensures

pub returns-in-Err-clause-reads : goal.returns-in-Err-clause-reads
returns-in-Err-clause-reads c = reads_none faults DescribesFile table_view c.args.bytes.now _ c.in-Err.ensures

pub returns-in-Err-clause-memory : goal.returns-in-Err-clause-memory
returns-in-Err-clause-memory c = λ memory. room_for_tree table_view c.args.bytes.now _ c.in-Err.ensures cc
