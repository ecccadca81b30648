use Rattle.std.proofs.Common.{map}
use Rattle.j39_vehicle.specs.GatewayTables.{all_units, named_gateway}
use Rattle.j39_vehicle.proofs.Units.{IsTried}
use Rattle.j39_vehicle.proofs.reading.gateway_units.units_cause.Given as goal

abbrev pub invariant-loop-index : goal.invariant-loop-index
invariant-loop-index l = IsTried (all_units (map named_gateway l.seen)) l.index l.values
