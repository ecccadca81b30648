use Rattle.std.proofs.Common.{◌≡◌, ℕ, Option, Some, sym, subst, ◌∙◌}
use Rattle.j39_audit.specs.AuditPasts.{past_again, with_again}
use Rattle.j39_audit.specs.Claiming.{HeardClaims, with_requests}
use Rattle.j39_audit.specs.declared.again.TakenFrame.{TakenFrame}
use Rattle.j39_audit.specs.declared.basis.Basis.{Basis}
use Rattle.j39_audit.specs.inside.Auditing.{RecallsAudit}
use Rattle.j39_audit.specs.inside.Recalling.{settings_of}
use Rattle.j39_audit.proofs.audit_log.AuditLog.take_taken.Goals as goal

pub returns-clause-again : goal.returns-clause-again
unfolding past_again
returns-clause-again c = λ past recalls.
    let old = c.args.self.now in
    let new = c.take_again.new.self in
    let s = settings_of new.basis in
    let one = c.in-Some.one in
    let at = c.in-Some-time.at in
    let heard : Basis → Option ℕ → HeardClaims = λ b t. with_requests b.plan.now t one.frame one.request past.claims in
    let took = c.take_again.ensures.again (record past { claims = heard old.basis (Some at) }) (record {
      follows = record {
        knows = c.in_ok-take_request.ensures past.claims recalls.follows.knows;
        counted = recalls.follows.counted;
        newest_is = recalls.follows.newest_is;
        before_is = recalls.follows.before_is;
        moments = recalls.follows.moments;
        by_load = recalls.follows.by_load;
        asking = recalls.follows.asking;
        broadcasts = recalls.follows.broadcasts;
        sessions = recalls.follows.sessions;
      };
      number_is = recalls.number_is;
      interface_is = recalls.interface_is;
      taken_is = recalls.taken_is;
      again_is = recalls.again_is;
      frames_are = recalls.frames_are;
      skipped_are = recalls.skipped_are;
      bad_are = recalls.bad_are;
      elsewhere_are = recalls.elsewhere_are;
    }) in
    let taken : Some one ≡ past.taken = sym c.in-Some.is ∙ recalls.taken_is in
    subst (λ (o : Option TakenFrame). RecallsAudit new (past_again s o c.args.time past)) taken
    (subst (λ (t : Option ℕ). RecallsAudit new (past_again s (Some one) t past)) (sym c.in-Some-time.is)
    (subst (λ (b : Basis). RecallsAudit new (with_again s one.flow one.unit one.line at (record past { claims = heard b (Some at) })))
    (sym c.take_again.ensures.basis) took))
