use Rattle.std.proofs.Common.{take}
use Rattle.j39_log.specs.inside.Catalogs.{IsIndex}
use Rattle.j39_log.proofs.catalog.spans_of.Given as goal

abbrev pub invariant-loop-place : goal.invariant-loop-place
invariant-loop-place l = IsIndex (take l.place l.groups) l.spans
