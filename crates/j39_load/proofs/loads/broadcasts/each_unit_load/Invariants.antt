use Rattle.std.proofs.Common.{◌≡◌, map, length, All}
use Rattle.std.specs.List.{range_with_len}
use Rattle.j39_load.specs.Broadcasts.{broadcasts_by, known_unit_load}
use Rattle.j39_load.specs.SoundLoads.{IsSoundIfSent}
use Rattle.j39_findings.specs.Standing.{stays_of}
use Rattle.j39_load.proofs.loads.broadcasts.each_unit_load.Given as goal

abbrev pub invariant-loop-unit : goal.invariant-loop-unit
invariant-loop-unit l = record {
  loads : l.unit_loads.items
      ≡ map (λ u. known_unit_load l.bus.timing l.bus.plan.now.units.items (stays_of l.bus.standing.now) u (broadcasts_by u l.loads)) (range_with_len 0 l.unit);
  count : length l.unit_loads.items ≡ l.unit;
  sound : All IsSoundIfSent l.unit_loads.items;
}
