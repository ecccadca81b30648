use Rattle.std.proofs.Common.{◌-◌, length}
use Rattle.j39_variant_search.proofs.Beginning.{IsFirstTo}
use Rattle.j39_variant_search.proofs.search.first_outside.Given as goal

abbrev pub decreases-loop-alloc : goal.decreases-loop-alloc
decreases-loop-alloc l = length l.within - length l.taken.items

abbrev pub invariant-loop-alloc : goal.invariant-loop-alloc
invariant-loop-alloc l = IsFirstTo l.within l.holes l.near.items l.taken.items
