use Rattle.std.proofs.Common.{take, All}
use Rattle.j39_network.specs.PlannedGroups.{IsSendable}
use Rattle.j39_bus.proofs.opening.try_groups.Given as goal

abbrev pub invariant-loop-place : goal.invariant-loop-place
invariant-loop-place l = All IsSendable (take l.place l.groups)
