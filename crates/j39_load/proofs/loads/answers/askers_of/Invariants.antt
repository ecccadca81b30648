use Rattle.std.proofs.Common.{◌≡◌, ◌≤◌, filter_map, length, take}
use Rattle.j39_load.specs.AskedFlows.{asked_every}
use Rattle.j39_load.proofs.loads.answers.askers_of.Given as goal

abbrev pub invariant-loop-request : goal.invariant-loop-request
invariant-loop-request l = (l.askers ≡ length (filter_map (asked_every l.flow) (take l.request-index l.requests))) × (l.askers ≤ l.request-index)
