use Rattle.std.proofs.Common.{◌≡◌, take}
use Rattle.j39_variant_search.specs.VariantSearch.{boxes_flags}
use Rattle.j39_line_witnesses.specs.FirstMeeting.{IsWitnessOf}
use Rattle.j39_line_witnesses.specs.Presences.{conditions_in}
use Rattle.j39_line_witnesses.proofs.witness.first_of_any.Given as goal

abbrev pub invariant-loop-condition : goal.invariant-loop-condition
invariant-loop-condition l = record {
  kept : boxes_flags l.holes.items ≡ boxes_flags l.initial.holes.items;
  first : IsWitnessOf l.line (conditions_in (take l.condition-index l.conditions)) l.first;
}
