use Rattle.std.proofs.Common.{◌≡◌, map, take}
use Rattle.j39_vehicle_findings.specs.Loops.{followers}
use Rattle.j39_vehicle_findings.proofs.loops.followers_of.Given as goal

abbrev pub invariant-loop-forward : goal.invariant-loop-forward
invariant-loop-forward l = map (λ row. row.items) l.rows.items ≡ map (followers l.vehicle) (take l.forward-index l.vehicle.forwards.items)
