use Rattle.j39_line_laws.proofs.Staying.{report_who_stays}
use Rattle.j39_line_laws.proofs.full_bounds.full_variants_report_who_stays.Goals as goal

pub returns : goal.returns
returns c = report_who_stays
