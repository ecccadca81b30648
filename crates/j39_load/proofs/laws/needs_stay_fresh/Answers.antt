use Rattle.j39_load.proofs.AgeLaws.{fresh_where_checked}
use Rattle.j39_load.proofs.laws.needs_stay_fresh.Goals as goal

pub returns : goal.returns
returns c = fresh_where_checked
