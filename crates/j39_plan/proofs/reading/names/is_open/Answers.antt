use Rattle.toml.specs.View.{table_view}
use Rattle.j39_plan.proofs.OpenNumbers.{open_number}
use Rattle.j39_plan.proofs.reading.names.is_open.Goals as goal

pub returns-clause-number : goal.returns-clause-number
returns-clause-number c =
    open_number c.args.version (table_view c.args.members.now) c.args.name c.lacks_identity.result c.requires c.lacks_identity.ensures
