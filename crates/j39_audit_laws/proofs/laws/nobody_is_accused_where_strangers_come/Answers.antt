use Rattle.j39_audit_laws.proofs.WithStrangers.{nobody_is_unplanned}
use Rattle.j39_audit_laws.proofs.laws.nobody_is_accused_where_strangers_come.Goals as goal

pub returns : goal.returns
returns c = nobody_is_unplanned
