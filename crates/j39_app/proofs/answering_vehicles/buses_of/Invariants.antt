use Rattle.std.proofs.Common.{◌≡◌, drop}
use Rattle.j39_app.specs.VehicleAnswers.{IsPlanOfBus}
use Rattle.j39_app.proofs.BusesRead.{AreRead}
use Rattle.j39_app.proofs.answering_vehicles.buses_of.Given as goal

abbrev pub invariant-loop-table : goal.invariant-loop-table
invariant-loop-table g l = record {
  same : l.sink ≡ l.initial.sink;
  read : AreRead (IsPlanOfBus (g.F.Folder.bytes_of l.files) l.vehicle) (drop l.table-index l.tables) l.tables l.buses.items;
}
