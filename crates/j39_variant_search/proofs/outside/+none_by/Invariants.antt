use Rattle.j39_variant_search.specs.VariantSearch.{box_flags}
use Rattle.j39_variant_search.proofs.Counts.{box_count}
use Rattle.j39_variant_search.proofs.NoneBy.{IsNoneTo}
use Rattle.j39_variant_search.proofs.outside.+none_by.Given as goal

abbrev pub decreases-none_by : goal.decreases-none_by
decreases-none_by l = box_count (box_flags l.within.now)

abbrev pub invariant-loop-choice : goal.invariant-loop-choice
invariant-loop-choice l = IsNoneTo l.whole l.within l.hole l.holes l.met.items l.by.items l.choice
