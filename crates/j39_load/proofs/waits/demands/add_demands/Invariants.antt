use Rattle.std.proofs.Common.{◌≡◌, ◌++◌, map, All}
use Rattle.std.specs.List.{range_with_len}
use Rattle.j39_load.specs.Demands.{demand_by, wants_of}
use Rattle.j39_timing.specs.Waits.{IsWanted, as_demand}
use Rattle.j39_load.proofs.waits.demands.add_demands.Given as goal

abbrev pub invariant-loop-unit : goal.invariant-loop-unit
invariant-loop-unit l = record {
  demands : map as_demand l.demands.items
      ≡ map as_demand l.initial.demands.items ++ map (λ u. demand_by l.part (wants_of l.all u)) (range_with_len 0 l.unit);
  sound : All IsWanted l.demands.items;
}
