use Rattle.std.proofs.Common.{◌++◌}
use Rattle.std.proofs.lemmas.Result.{IfOk-weaker}
use Rattle.j39_run.proofs.Runs.{put_run, so_far}
use Rattle.j39_run.proofs.schedule_reader.ScheduleReaderLineReader.put.Goals as goal

pub returns-clause-lines : goal.returns-clause-lines
returns-clause-lines g c =
    let plan = c.args.self.now.units.now in
    let run = c.args.self.now.running in
    IfOk-weaker c.put_text.result _ _
    (λ _ empty. λ yielded written has.
    so_far plan (record run { text = c.put_text.new.text }) yielded (written ++ run.text) (put_run plan run c.put_text.new.text yielded written empty has))
    c.put_text.ensures.empty
