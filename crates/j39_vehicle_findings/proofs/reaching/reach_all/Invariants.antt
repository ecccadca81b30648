use Rattle.std.proofs.Common.{◌+◌, length, not}
use Rattle.std.specs.List.{count_by}
use Rattle.j39_vehicle_findings.specs.inside.Spreading.{IsSpread}
use Rattle.j39_vehicle_findings.proofs.reaching.reach_all.Given as goal

abbrev pub invariant-spread : goal.invariant-spread
invariant-spread l = IsSpread l.rows l.start l.reached.items l.waiting.items

abbrev pub decreases-spread : goal.decreases-spread
decreases-spread l = count_by not l.reached.items + length l.waiting.items
