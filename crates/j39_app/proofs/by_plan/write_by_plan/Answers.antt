use Rattle.j39_app.proofs.AuditEnds.{audit_ends}
use Rattle.j39_app.proofs.Ending.{log_ends, pieces_end}
use Rattle.j39_app.proofs.WholeInputs.{by_file}
use Rattle.j39_app.proofs.by_plan.write_by_plan.Goals as goal

pub returns-in-Run : goal.returns-in-Run
returns-in-Run g c = λ known opened.
    let written = by_file _ _ _ _ known _ c.run_planned.result opened c.run_planned.ensures.answers.written c.run_planned.ensures.whole in
    rw c.in-Run.is (pieces_end known _ _ _ opened (λ input text verdict of is. (verdict, (input, of, is))) (λ failed. failed)
    c.run_planned.result written c.run_planned.ensures.answers)

pub returns-in-Read : goal.returns-in-Read
returns-in-Read g c = λ known opened. rw c.in-Read.is (log_ends known _ opened (λ failed. failed) c.read_text.result c.read_text.ensures)

pub returns-in-Follow : goal.returns-in-Follow
returns-in-Follow g c = λ known opened. rw c.in-Follow.is (log_ends known _ opened (λ failed. failed) c.follow_text.result c.follow_text.ensures)

pub returns-in-Audit : goal.returns-in-Audit
returns-in-Audit g c = λ known opened.
    rw c.in-Audit.is (audit_ends c.args.plan.now c.in-Audit.part c.in-Audit.stamps c.in-Audit.quiet known _ opened (λ failed. failed) c.audit_planned.result
    c.audit_planned.ensures.hindered c.audit_planned.ensures.audited)
