use Rattle.j39_line_laws.proofs.TimesOfFull.{needs_bound_all}
use Rattle.j39_line_laws.proofs.full_bounds.needs_of_full_variants_bound_all.Goals as goal

pub returns : goal.returns
returns c = needs_bound_all
