use Rattle.std.proofs.Common.{◌≡◌, Option, inl, inr, true, false, refl, sym, ap, ◌∙◌}
use Rattle.std.proofs.lemmas.Result.{IfOk-weaker}
use Rattle.std.specs.Option.{option_copied}
use Rattle.j39_audit.specs.Again.{is_again}
use Rattle.j39_audit.specs.AuditPasts.{past_with_again, past_with_frame}
use Rattle.j39_audit.specs.declared.again.TakenFrame.{TakenFrame}
use Rattle.j39_audit.specs.declared.basis.Basis.{Basis}
use Rattle.j39_audit.specs.inside.Recalling.{settings_of}
use Rattle.j39_audit.proofs.Hearing.{again_number, frame_number}
use Rattle.j39_audit.proofs.audit_log.AuditLog.take_frame_line.Goals as goal

pub returns-then-is_again-clause-frame : goal.returns-then-is_again-clause-frame
returns-then-is_again-clause-frame c =
    IfOk-weaker c.take_line_again.result _ _
    (λ _ took. λ past recalls.
    let new = c.take_line_again.new.self in
    let s = settings_of new.basis in
    let old = c.args.self.now in
    let again : is_again s.plan past.taken c.args.time c.args.frame ≡ true =
    ap (λ (b : Basis). is_again b.plan.now past.taken c.args.time c.args.frame) c.take_line_again.ensures.basis
    ∙ ap (λ (t : Option TakenFrame). is_again old.basis.plan.now t c.args.time c.args.frame) (sym recalls.taken_is)
    ∙ sym c.is_again.ensures ∙ c.if-is_again.true in
    record {
      next = past_with_again s c.args.time (option_copied c.args.named) past;
      takes = inl (again, refl);
      recalls = took past recalls;
      number_is = again_number s past past.taken c.args.time;
    })
    c.take_line_again.ensures.again

pub returns-clause-frame : goal.returns-clause-frame
returns-clause-frame c =
    IfOk-weaker c.take_new.result _ _
    (λ _ took. λ past recalls.
    let new = c.take_new.new.self in
    let s = settings_of new.basis in
    let old = c.args.self.now in
    let done = took past recalls in
    let fresh : is_again s.plan past.taken c.args.time c.args.frame ≡ false =
    ap (λ (b : Basis). is_again b.plan.now past.taken c.args.time c.args.frame) c.take_new.ensures.basis
    ∙ ap (λ (t : Option TakenFrame). is_again old.basis.plan.now t c.args.time c.args.frame) (sym recalls.taken_is)
    ∙ sym c.is_again.ensures ∙ c.if-is_again.false in
    let named = option_copied c.args.named in
    record {
      next = past_with_frame s past c.args.time named c.args.frame done.packet;
      takes = inr (fresh, (done.packet, done.packet_is, refl));
      recalls = done.recalls;
      number_is = frame_number s past c.args.time named c.args.frame done.packet;
    })
    c.take_new.ensures.frame
