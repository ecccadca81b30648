use Rattle.j39_line_check.proofs.OneNumber.{one_number}
use Rattle.j39_line_check.proofs.variant_laws.number_of_variants_is_one.Goals as goal

pub returns : goal.returns
returns c = one_number
