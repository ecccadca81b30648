use Rattle.j39_line_check.proofs.OfSets.{of_set}
use Rattle.j39_line_check.proofs.variant_laws.variants_are_of_sets.Goals as goal

pub returns : goal.returns
returns c = of_set
