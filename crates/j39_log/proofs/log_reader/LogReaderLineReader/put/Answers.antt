use Rattle.std.proofs.lemmas.Result.{IfOk-weaker}
use Rattle.j39_log.proofs.LogReading.{put}
use Rattle.j39_log.proofs.log_reader.LogReaderLineReader.put.Goals as goal

pub returns-clause-lines : goal.returns-clause-lines
returns-clause-lines g c =
    let self = c.args.self.now in
    let plan = self.groups.now in
    IfOk-weaker c.put_text.result _ _
    (λ _ empty. λ ls written read.
    put (g.R.LogReport.has_reported self.report.now plan self.counts) (g.R.LogReport.is_log_text self.report.now plan)
    (g.met.R.LogReport.ends self.report.now plan self.counts) self.number self.text c.put_text.new.text ls written empty read)
    c.put_text.ensures.empty
