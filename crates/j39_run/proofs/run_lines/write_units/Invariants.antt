use Rattle.std.proofs.Common.{◌≡◌, ◌-◌, ◌++◌, length, map}
use Rattle.std.specs.List.{range_with_len}
use Rattle.j39_bus.specs.Stations.{station_at}
use Rattle.j39_run.specs.RunText.{unit_lines}
use Rattle.j39_run.specs.Views.{unit_state}
use Rattle.j39_run.proofs.run_lines.write_units.Given as goal

abbrev pub invariant-loop-unit : goal.invariant-loop-unit
invariant-loop-unit g l =
    l.text ++ unit_lines l.plan l.unit (map (λ u. unit_state (station_at l.bus.units u)) (range_with_len l.unit (length l.plan.units.items - l.unit)))
    ≡ l.initial.text ++ unit_lines l.plan 0 (map (λ u. unit_state (station_at l.bus.units u)) (range_with_len 0 (length l.plan.units.items)))
