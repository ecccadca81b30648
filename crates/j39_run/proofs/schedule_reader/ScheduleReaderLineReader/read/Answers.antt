use Rattle.std.proofs.Common.{◌++◌, arith}
use Rattle.std.proofs.lemmas.Result.{IfOk-weaker}
use Rattle.j39_id.specs.Lines.{yields}
use Rattle.j39_run.proofs.Runs.{so_far}
use Rattle.j39_run.proofs.schedule_reader.ScheduleReaderLineReader.read.Goals as goal

pub read_cut-requires : goal.read_cut-requires
read_cut-requires g c = let (most, within, room) = c.requires.room in omega (arith, within, room)

pub returns-clause-lines : goal.returns-clause-lines
returns-clause-lines g c =
    IfOk-weaker c.read_cut.result _ _
    (λ _ runs. λ before written has.
    so_far c.args.self.now.units.now c.read_cut.new.self (before ++ yields c.args.cut c.args.line.now) written (runs.run before written has))
    c.read_cut.ensures.run

pub returns-clause-count : goal.returns-clause-count
returns-clause-count g c =
    IfOk-weaker c.read_cut.result _ _ (λ _ runs. λ most more within less. let one = runs.count in omega (arith, one, within, less)) c.read_cut.ensures.run
