use Rattle.j39_id.specs.Lines.{Short}
use Rattle.j39_run.proofs.Runs.{blank_run}
use Rattle.j39_run.proofs.running.Running.read_line.Goals as goal

pub returns-in-Ok-None-clause-run : goal.returns-in-Ok-None-clause-run
returns-in-Ok-None-clause-run g c =
    blank_run c.args.units.now c.args.self.now c.requires.goes (Short c.args.line.now) (rw c.in-Ok-None.field-0-is at c.in-Ok-None.ensures)
