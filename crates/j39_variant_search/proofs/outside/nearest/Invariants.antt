use Rattle.std.proofs.Common.{◌<◌, length}
use Rattle.j39_variant_search.proofs.outside.nearest.Given as goal

abbrev pub invariant-loop-index : goal.invariant-loop-index
invariant-loop-index l = l.found < length l.met
