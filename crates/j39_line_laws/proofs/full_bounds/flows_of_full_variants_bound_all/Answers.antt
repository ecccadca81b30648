use Rattle.j39_line_laws.proofs.TimesOfFull.{flows_bound_all}
use Rattle.j39_line_laws.proofs.full_bounds.flows_of_full_variants_bound_all.Goals as goal

pub returns : goal.returns
returns c = flows_bound_all
