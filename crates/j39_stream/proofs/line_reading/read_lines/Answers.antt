use Rattle.std.proofs.Common.{rules, refl}
use Rattle.j39_stream.proofs.LineReading.{all_written, cut_answers, not_closed, not_put, whole_text}
use Rattle.j39_stream.proofs.line_reading.read_lines.Goals as goal

pub returns-in_err-read_all-clause-answers : goal.returns-in_err-read_all-clause-answers
returns-in_err-read_all-clause-answers g c =
    cut_answers g.W.Sink.state c.args.sink.now c.read_all.new.sink _ (search rules) (search rules)

pub returns-in_err-verdict-clause-answers : goal.returns-in_err-verdict-clause-answers
returns-in_err-verdict-clause-answers g c =
    not_closed c.in_ok-read_all.ensures.texts c.in_ok-read_all.ensures.read g.W.Sink.state c.args.sink.now c.read_all.new.sink refl refl _ (search rules)

pub returns-in_err-put-clause-answers : goal.returns-in_err-put-clause-answers
returns-in_err-put-clause-answers g c =
    not_put c.in_ok-read_all.ensures.texts c.in_ok-read_all.ensures.read (g.R.LineReader.text c.close.new.self) c.in_ok-verdict.verdict
    c.in_ok-verdict.ensures.text g.W.Sink.state c.args.sink.now c.put.new.sink refl _ (search rules) c.in_err-put.ensures.device.1
    c.in_err-put.ensures.cut

pub returns-clause-answers : goal.returns-clause-answers
returns-clause-answers g c =
    all_written c.in_ok-read_all.ensures.texts c.in_ok-read_all.ensures.read (g.R.LineReader.text c.close.new.self) c.in_ok-verdict.verdict
    c.in_ok-verdict.ensures.text g.W.Sink.state c.args.sink.now c.put.new.sink refl c.in_ok-verdict.ensures.done c.in_ok-read_all.ensures.pieces
    c.in_ok-put.ensures.ok c.in_ok-put.ensures.whole

pub returns-clause-whole : goal.returns-clause-whole
returns-clause-whole g c =
    whole_text c.in_ok-read_all.ensures.texts c.in_ok-read_all.ensures.read (g.R.LineReader.text c.close.new.self) c.in_ok-verdict.verdict
    c.in_ok-verdict.ensures.text (g.W.Sink.state c.put.new.sink) c.in_ok-put.ensures.ok
