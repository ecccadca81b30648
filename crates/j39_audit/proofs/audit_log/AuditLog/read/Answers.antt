use Rattle.std.proofs.Common.{◌≡◌, ◌++◌, ◌∷◌, [], ℕ, List, length, refl, sym, ap, subst, ◌∙◌, arith}
use Rattle.std.proofs.lemmas.List.{length_push}
use Rattle.std.proofs.lemmas.Result.{IfOk-weaker}
use Rattle.j39_id.specs.Lines.{Line, Short as ShortLine, Long, yields}
use Rattle.j39_id.specs.declared.cut.Cut.{Cut}
use Rattle.j39_audit.specs.AuditPasts.{AuditPast, AuditsShort, bad_line, nothing_read, with_next_number}
use Rattle.j39_audit.specs.Settings.{Settings}
use Rattle.j39_audit.specs.declared.basis.Basis.{Basis}
use Rattle.j39_audit.specs.inside.Auditing.{HasAudited, RecallsAudit}
use Rattle.j39_audit.specs.inside.Recalling.{settings_of}
use Rattle.j39_audit.proofs.Hearing.{line_more, next_line}
use Rattle.j39_audit.proofs.audit_log.AuditLog.read.Goals as goal

pub returns-in-Line-clause-lines : goal.returns-in-Line-clause-lines
returns-in-Line-clause-lines c =
    let new = c.take_line.new.self in
    let text : List ℕ = c.args.line.now in
    let line : Line = ShortLine text in
    IfOk-weaker c.take_line.result _ _
    (λ _ took. λ s ls audited.
    let past : AuditPast = audited.past in
    let old = audited.recalls in
    let one = took (with_next_number past) (next_line c.args.self.now past old) in
    let same : settings_of new.basis ≡ s = ap (λ (b : Basis). settings_of b) c.take_line.ensures.basis ∙ audited.settings_are in
    let next = one.number_is in
    let before = audited.number_is in
    let more = length_push ls line in
    let done : HasAudited s new (ls ++ line ∷ []) = record {
      past = one.next;
      read = line_more s ls line nothing_read past one.next audited.read
          (subst (λ (t : Settings). AuditsShort t (with_next_number past) text one.next) same one.reads);
      recalls = one.recalls;
      number_is = omega (arith, next, before, more);
      settings_are = same;
    } in
    subst (λ (k : List Line). HasAudited s new (ls ++ k)) (sym (ap (λ (k : Cut). yields k text) c.in-Line.is)) done)
    c.take_line.ensures.line

pub returns-in-Long-clause-lines : goal.returns-in-Long-clause-lines
returns-in-Long-clause-lines c =
    let new = c.take_bad.new.self in
    IfOk-weaker c.take_bad.result _ _
    (λ _ took. λ s ls audited.
    let past : AuditPast = audited.past in
    let old = audited.recalls in
    let before = audited.number_is in
    let more = length_push ls Long in
    let next = with_next_number past in
    let end : AuditPast = bad_line s next in
    let same : settings_of new.basis ≡ s = ap (λ (b : Basis). settings_of b) c.take_bad.ensures.basis ∙ audited.settings_are in
    let one = took next (next_line c.args.self.now past old) in
    let count : end.number ≡ length (ls ++ Long ∷ []) = omega (arith, before, more) in
    let done : HasAudited s new (ls ++ Long ∷ []) = record {
      past = end;
      read = line_more s ls Long nothing_read past end audited.read refl;
      recalls = subst (λ (t : Settings). RecallsAudit new (bad_line t next)) same one;
      number_is = count;
      settings_are = same;
    } in
    subst (λ (k : List Line). HasAudited s new (ls ++ k)) (sym (ap (λ (k : Cut). yields k c.args.line.now) c.in-Long.is)) done)
    c.take_bad.ensures.fault
