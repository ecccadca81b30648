use Rattle.j39_log_laws.proofs.Makes.{kinds_are_of_fields}
use Rattle.j39_log_laws.proofs.laws.kinds_are_of_fields.Goals as goal

pub returns : goal.returns
returns c = kinds_are_of_fields
