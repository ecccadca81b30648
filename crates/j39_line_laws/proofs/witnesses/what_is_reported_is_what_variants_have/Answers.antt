use Rattle.j39_line_laws.proofs.Exactly.{report_exactly}
use Rattle.j39_line_laws.proofs.witnesses.what_is_reported_is_what_variants_have.Goals as goal

pub returns : goal.returns
returns c = report_exactly
