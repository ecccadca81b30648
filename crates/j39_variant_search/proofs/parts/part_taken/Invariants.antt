use Rattle.j39_variant_search.specs.VariantSearch.{box_flags}
use Rattle.j39_variant_search.specs.inside.BoxParts.{is_taken_at}
use Rattle.j39_variant_search.proofs.Pieces.{IsPartTo}
use Rattle.j39_variant_search.proofs.parts.part_taken.Given as goal

abbrev pub invariant-loop-choice : goal.invariant-loop-choice
invariant-loop-choice l = IsPartTo l.choice (is_taken_at l.taken) (box_flags l.within) (box_flags l.part.items)
