use Rattle.j39_line_laws.proofs.Suffices.{full_suffice}
use Rattle.j39_line_laws.proofs.covering.full_variants_suffice_but_for_absence.Goals as goal

pub returns : goal.returns
returns c = full_suffice
