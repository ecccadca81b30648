use Rattle.j39_line_laws.proofs.WithoutNevers.{change_nothing}
use Rattle.j39_line_laws.proofs.full_variants.nevers_change_nothing_that_is_built.Goals as goal

pub returns : goal.returns
returns c = change_nothing
