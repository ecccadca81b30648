use Rattle.j39_line_laws.proofs.Staying.{report_of_units}
use Rattle.j39_line_laws.proofs.full_bounds.full_variants_report_of_units.Goals as goal

pub returns : goal.returns
returns c = report_of_units
