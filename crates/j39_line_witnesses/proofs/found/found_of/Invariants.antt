use Rattle.std.proofs.Common.{◌≡◌, take}
use Rattle.j39_variant_search.specs.VariantSearch.{boxes_flags}
use Rattle.j39_line_witnesses.specs.PartBoxes.{never_holes}
use Rattle.j39_line_witnesses.specs.WitnessedFindings.{AreWitnessed}
use Rattle.j39_line_witnesses.proofs.found.found_of.Given as goal

abbrev pub invariant-loop-finding : goal.invariant-loop-finding
invariant-loop-finding l = record {
  kept : boxes_flags l.holes.items ≡ never_holes l.line l.line.nevers.items;
  reported : AreWitnessed l.line (take l.finding-index l.findings) l.reported.items;
}
