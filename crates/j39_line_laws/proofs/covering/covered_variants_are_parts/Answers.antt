use Rattle.j39_line_laws.proofs.Parts.{is_part}
use Rattle.j39_line_laws.proofs.covering.covered_variants_are_parts.Goals as goal

pub returns : goal.returns
returns c = is_part
