use Rattle.j39_line_laws.proofs.FoundOfFull.{have_what_is_found}
use Rattle.j39_line_laws.proofs.full_variants.full_variants_have_what_is_found.Goals as goal

pub returns : goal.returns
returns c = have_what_is_found
