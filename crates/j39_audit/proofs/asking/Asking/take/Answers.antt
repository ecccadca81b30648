use Rattle.j39_audit.proofs.asking.Asking.take.Goals as goal

pub returns : goal.returns
returns c = λ a recalls. c.take_timed.ensures _ (c.take_answer.ensures _ (c.begin.ensures a recalls))
