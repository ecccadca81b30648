use Rattle.std.proofs.Common.{sym, subst}
use Rattle.std.proofs.lemmas.Result.{IfOk-weaker}
use Rattle.j39_id.specs.declared.line_error.LineError.{LineError}
use Rattle.j39_audit.specs.AuditPasts.{passed_by}
use Rattle.j39_audit.specs.inside.Auditing.{RecallsAudit}
use Rattle.j39_audit.specs.inside.Recalling.{settings_of}
use Rattle.j39_audit.proofs.audit_log.AuditLog.take_fault.Goals as goal

pub returns-in-ShortIdent-clause-fault : goal.returns-in-ShortIdent-clause-fault
returns-in-ShortIdent-clause-fault c =
    IfOk-weaker c.take_short.result _ _
    (λ _ took. λ past recalls.
    subst (λ (e : LineError). RecallsAudit c.take_short.new.self (passed_by (settings_of c.take_short.new.self.basis) e past)) (sym c.in-ShortIdent.is)
    (took past recalls))
    c.take_short.ensures.fault

pub returns-in-NoHash-clause-fault : goal.returns-in-NoHash-clause-fault
returns-in-NoHash-clause-fault c =
    IfOk-weaker c.take_bad.result _ _
    (λ _ took. λ past recalls.
    subst (λ (e : LineError). RecallsAudit c.take_bad.new.self (passed_by (settings_of c.take_bad.new.self.basis) e past)) (sym c.in-NoHash.is)
    (took past recalls))
    c.take_bad.ensures.fault

pub returns-in-BadIdent-clause-fault : goal.returns-in-BadIdent-clause-fault
returns-in-BadIdent-clause-fault c =
    IfOk-weaker c.take_bad-in-BadIdent.result _ _
    (λ _ took. λ past recalls.
    subst (λ (e : LineError). RecallsAudit c.take_bad-in-BadIdent.new.self (passed_by (settings_of c.take_bad-in-BadIdent.new.self.basis) e past))
    (sym c.in-BadIdent.is)
    (took past recalls))
    c.take_bad-in-BadIdent.ensures.fault

pub returns-in-TooLong-clause-fault : goal.returns-in-TooLong-clause-fault
returns-in-TooLong-clause-fault c =
    IfOk-weaker c.take_bad-in-TooLong.result _ _
    (λ _ took. λ past recalls.
    subst (λ (e : LineError). RecallsAudit c.take_bad-in-TooLong.new.self (passed_by (settings_of c.take_bad-in-TooLong.new.self.basis) e past))
    (sym c.in-TooLong.is)
    (took past recalls))
    c.take_bad-in-TooLong.ensures.fault

pub returns-in-BadData-clause-fault : goal.returns-in-BadData-clause-fault
returns-in-BadData-clause-fault c =
    IfOk-weaker c.take_bad-in-BadData.result _ _
    (λ _ took. λ past recalls.
    subst (λ (e : LineError). RecallsAudit c.take_bad-in-BadData.new.self (passed_by (settings_of c.take_bad-in-BadData.new.self.basis) e past))
    (sym c.in-BadData.is)
    (took past recalls))
    c.take_bad-in-BadData.ensures.fault
