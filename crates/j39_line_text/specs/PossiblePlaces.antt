-- What stands in the file of a line of vehicles, of which some possible variant may have it or none.
use Rattle.std.specs.Prelude.{ℕ, List, length, map}
use Rattle.std.specs.List.{range_with_len}
use Rattle.j39_variants.specs.declared.line.ProductLine.{ProductLine}
use Rattle.j39_line_findings.specs.declared.part.LinePart.{LinePart}
use Rattle.j39_line_findings.specs.declared.part.LinePart.TheVariants.{Unit as AUnit, Flow, Need}

abbrev pub units_of_line : ProductLine → List LinePart
units_of_line line = map AUnit (range_with_len 0 (length line.plan.units.items))

abbrev pub flows_of_line : ProductLine → List LinePart
flows_of_line line = map Flow (range_with_len 0 (length line.plan.flows.items))

abbrev pub needs_of_line : ProductLine → List LinePart
needs_of_line line = map Need (range_with_len 0 (length line.plan.needs.items))
