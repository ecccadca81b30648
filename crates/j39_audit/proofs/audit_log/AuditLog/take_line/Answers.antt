use Rattle.std.proofs.Common.{◌≡◌, ◌+◌, ℕ, Option, inl, inr, refl, sym, ap, subst, ◌∙◌}
use Rattle.std.specs.Prelude.{IfErr, IfOk, Result}
use Rattle.std.specs.Option.{option_copied}
use Rattle.std.proofs.lemmas.Result.{IfOk-weaker}
use Rattle.j39_id.specs.FrameLine.{HasLineFault, Spells}
use Rattle.j39_id.specs.declared.frame.Frame.{Frame}
use Rattle.j39_id.specs.declared.line_error.LineError.{LineError}
use Rattle.j39_network.specs.declared.plan.Plan.{Plan}
use Rattle.j39_audit.specs.AuditPasts.{AuditPast, TakesFrame, passed_by}
use Rattle.j39_audit.specs.Breaks.{line_time}
use Rattle.j39_audit.specs.declared.basis.Basis.{Basis}
use Rattle.j39_audit.specs.inside.Recalling.{settings_of}
use Rattle.j39_audit.proofs.Hearing.{as_many_lines, follows_still, heard_elsewhere, heard_here}
use Rattle.j39_audit.proofs.audit_log.AuditLog.take_line.Goals as goal

pub returns-then-is_elsewhere-clause-line : goal.returns-then-is_elsewhere-clause-line
returns-then-is_elsewhere-clause-line c = λ past recalls.
    let self = c.args.self.now in
    let found = c.interface-named.ensures in
    let next : AuditPast = record past { elsewhere = past.elsewhere + 1 } in
    record {
      next = next;
      reads = heard_elsewhere (settings_of self.basis) past next c.args.line.now c.read_part-part.result.now c.interface-named.result c.read_part-part.ensures
          found.named found.none _ (c.kept_interface.ensures ∙ recalls.interface_is) (c.is_elsewhere.ensures.0 c.if-is_elsewhere.true) refl;
      recalls = record {
        follows = follows_still self past recalls.follows;
        number_is = recalls.number_is;
        interface_is = recalls.interface_is;
        taken_is = recalls.taken_is;
        again_is = recalls.again_is;
        frames_are = recalls.frames_are;
        skipped_are = recalls.skipped_are;
        bad_are = recalls.bad_are;
        elsewhere_are = ap (λ (n : ℕ). n + 1) recalls.elsewhere_are;
      };
      number_is = refl;
    }

pub returns-in-Ok-clause-line : goal.returns-in-Ok-clause-line
returns-in-Ok-clause-line c =
    let part = c.read_part-part.result.now in
    let named = c.interface-named in
    let f = c.in-Ok.frame in
    let s = settings_of c.take_frame_line.new.self.basis in
    let spelled = subst (λ (r : Result Frame LineError). IfOk r (λ f. Spells part f)) c.in-Ok.is c.read_frame-read.ensures.found in
    let plan : c.args.self.now.basis.plan.now ≡ s.plan = ap (λ (b : Basis). b.plan.now) (sym c.take_frame_line.ensures.basis) in
    IfOk-weaker c.take_frame_line.result _ _
    (λ _ took. λ past recalls.
    let done = took past recalls in
    record {
      next = done.next;
      reads = heard_here s past done.next c.args.line.now part named.result c.read_part-part.ensures named.ensures.named named.ensures.none
          _ _ c.if-is_elsewhere.false c.is_elsewhere.ensures.1 (c.kept_interface.ensures ∙ recalls.interface_is)
          (inl (
            f,
            c.time_text.result.now,
            spelled,
            c.time_text.ensures,
            subst (λ (t : Option ℕ). TakesFrame s past t (option_copied named.result) f done.next)
                (c.line_time-time.ensures.value ∙ ap (λ (p : Plan). line_time p c.time_text.result.now) plan) done.takes,
          ));
      recalls = done.recalls;
      number_is = done.number_is;
    })
    c.take_frame_line.ensures.frame

pub returns-in-Err-clause-line : goal.returns-in-Err-clause-line
returns-in-Err-clause-line c =
    let part = c.read_part-part.result.now in
    let named = c.interface-named in
    let error = c.in-Err.error in
    let s = settings_of c.take_fault.new.self.basis in
    let fault = subst (λ (r : Result Frame LineError). IfErr r (λ e. HasLineFault part e)) c.in-Err.is c.read_frame-read.ensures.refused in
    IfOk-weaker c.take_fault.result _ _
    (λ _ took. λ past recalls.
    let next : AuditPast = passed_by s error past in
    record {
      next = next;
      reads = heard_here s past next c.args.line.now part named.result c.read_part-part.ensures named.ensures.named named.ensures.none
          _ _ c.if-is_elsewhere.false c.is_elsewhere.ensures.1 (c.kept_interface.ensures ∙ recalls.interface_is) (inr (error, fault, refl));
      recalls = took past recalls;
      number_is = as_many_lines s error past;
    })
    c.take_fault.ensures.fault
