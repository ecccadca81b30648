use Rattle.j39_line_check.proofs.NeedLists.{all_looked_at}
use Rattle.j39_line_check.proofs.variant_laws.full_variants_are_looked_at.Goals as goal

pub returns : goal.returns
returns c = all_looked_at
