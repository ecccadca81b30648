use Rattle.std.proofs.Common.{take}
use Rattle.j39_vehicle_findings.specs.inside.Spreading.{Spreads}
use Rattle.j39_vehicle_findings.proofs.reaching.reach.Given as goal

abbrev pub invariant-reach : goal.invariant-reach
invariant-reach l = Spreads (take l.place l.places) l.initial.reached.items l.initial.waiting.items l.reached.items l.waiting.items
