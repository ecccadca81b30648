use Rattle.j39_line_laws.proofs.WithoutNevers.{count_all}
use Rattle.j39_line_laws.proofs.full_variants.full_variants_count_all_that_is_there.Goals as goal

pub returns : goal.returns
returns c = count_all
