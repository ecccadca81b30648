use Rattle.std.proofs.Common.{rules}
use Rattle.j39_stream.proofs.Answering.{not_read, read_and_put}
use Rattle.j39_audit.specs.inside.Recalling.{settings_of}
use Rattle.j39_audit.proofs.Audited.{is_audit_of}
use Rattle.j39_audit.proofs.answer.audit_by.Goals as goal

pub returns-in_err-log : goal.returns-in_err-log
returns-in_err-log g c = not_read _ (search rules) (search rules) (search rules)

pub returns-in_err-read_log : goal.returns-in_err-read_log
returns-in_err-read_log g c =
    not_read _ (search rules) (search (rules, c.in_err-read_log.ensures.long, c.from_residual-in_err-read_log.ensures, c.in_err-read_log.is))
    (search (rules, c.in_err-read_log.ensures.device, c.from_residual-in_err-read_log.ensures, c.in_err-read_log.is))

pub returns : goal.returns
returns g c =
    let begun = c.in_ok-log.ensures in
    let s = settings_of c.in_ok-log.log.basis in
    let t = settings_of c.args.basis in
    let read = c.in_ok-read_log.ensures.read s begun.nothing in
    read_and_put read.input
    (λ text verdict is.
    let audit = is_audit_of s t c.args.quiet begun.settings c.requires.moving c.requires.responses c.requires.bus c.requires.quiet c.read_log.new.log read.input text verdict
    read.ended is in
    (audit, (verdict, audit)))
    c.put_report.result read.consumed read.end c.in_ok-read_log.ensures.limits (c.in_ok-read_log.ensures.calm (λ e. cc e)) c.put_report.ensures
