use Rattle.toml.proofs.Views.{table_get}
use Rattle.j39_toml.proofs.keys.value_at.Goals as goal

pub returns : goal.returns
returns g c = rw c.spelled.ensures at (table_get c.get.result c.spelled.result.now c.args.members.now.entries c.get.ensures.value)
