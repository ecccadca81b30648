use Rattle.std.proofs.Common.{◌≡◌, take}
use Rattle.j39_variant_search.specs.VariantSearch.{boxes_flags}
use Rattle.j39_line_witnesses.specs.PartBoxes.{never_holes}
use Rattle.j39_line_witnesses.specs.PossibleParts.{ArePartsPossible}
use Rattle.j39_line_witnesses.proofs.possible.possible_parts.Given as goal

abbrev pub invariant-loop-part : goal.invariant-loop-part
invariant-loop-part l = record {
  kept : boxes_flags l.holes.items ≡ never_holes l.line l.line.nevers.items;
  reported : ArePartsPossible l.line (take l.part-index l.parts) l.flags.items;
}
