use Rattle.std.proofs.Common.{◌≡◌, ◌≤◌, drop, length}
use Rattle.j39_vehicle_text.proofs.BlockLists.{BlocksSoFar}
use Rattle.j39_vehicle_text.proofs.DelaysSoFar.{AreSoFar}
use Rattle.j39_vehicle_text.proofs.bus_blocks.write_blocks.Given as goal

abbrev pub invariant-loop-bus : goal.invariant-loop-bus
invariant-loop-bus l = record {
  blocks : BlocksSoFar (drop l.bus-index l.buses) l.buses l.initial.text l.text l.all.count l.all.are_of_times;
  count : length l.of_buses.items ≡ l.bus-index;
  most : l.bus-index ≤ length l.buses;
  delays : AreSoFar l.buses l.of_buses.items;
}
