use Rattle.std.proofs.Common.{sym}
use Rattle.j39_id.proofs.CutLines.{part_beyond}
use Rattle.j39_id.proofs.cutter.Cutter.go_on.Goals as goal

pub returns-in-Beyond-clause-yielded : goal.returns-in-Beyond-clause-yielded
returns-in-Beyond-clause-yielded c = rw (← c.self.view_is, c.in-Beyond.is) (part_beyond c.self.inside.bytes.items c.args.part.now c.requires.none).0

pub returns-in-Beyond-clause-pending : goal.returns-in-Beyond-clause-pending
returns-in-Beyond-clause-pending c = rw (← c.self.view_is, c.in-Beyond.is) (sym (part_beyond c.self.inside.bytes.items c.args.part.now c.requires.none).1)
