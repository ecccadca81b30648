use Rattle.std.proofs.Common.{◌≡◌, map, take}
use Rattle.j39_vehicle_findings.specs.Traces.{first_input}
use Rattle.j39_vehicle_findings.proofs.tables.inputs_of.Given as goal

abbrev pub invariant-loop-forward : goal.invariant-loop-forward
invariant-loop-forward l = l.inputs.items ≡ map (first_input l.vehicle) (take l.forward-index l.vehicle.forwards.items)
