use Rattle.std.proofs.Common.{◌≡◌, All, map, take}
use Rattle.j39_network.specs.PlannedGroups.{IsSendable, layout_of}
use Rattle.j39_log.proofs.catalog.layouts_of.Given as goal

abbrev pub invariant-loop-place : goal.invariant-loop-place
invariant-loop-place l = (l.layouts.items ≡ map layout_of (take l.place l.groups)) × All IsSendable (take l.place l.groups)
