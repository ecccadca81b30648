use Rattle.std.proofs.Common.{sym, ◌∙◌}
use Rattle.j39_load.proofs.AskedParts.{answering_more}
use Rattle.j39_load.proofs.findings.asking.is_asked_too_often.Goals as goal

pub returns-then-flow : goal.returns-then-flow
returns-then-flow c =
    let is = c.in-Some.is in
    let answers = c.if-flow.true in
    c.is_more_asked.ensures ∙ sym (answering_more c.args.requests.now c.args.flow.now c.in-Some.pace answers is)
