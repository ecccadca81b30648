use Rattle.std.proofs.Common.{ℕ, ◌+◌, refl, ap, subst}
use Rattle.std.proofs.lemmas.Result.{IfOk-weaker}
use Rattle.j39_audit.specs.Moments.{behind_bad}
use Rattle.j39_audit.specs.Settings.{Settings}
use Rattle.j39_audit.specs.inside.Recalling.{RecallsMoments}
use Rattle.j39_audit.proofs.audit_log.AuditLog.take_bad.Goals as goal

pub returns-clause-fault : goal.returns-clause-fault
returns-clause-fault c =
    IfOk-weaker c.pass_bad-2.result _ _
    (λ _ passed. λ past recalls. record {
      follows = record {
        knows = recalls.follows.knows;
        counted = recalls.follows.counted;
        newest_is = recalls.follows.newest_is;
        before_is = recalls.follows.before_is;
        moments = c.in_ok-pass_bad.ensures.moments past.moments recalls.follows.moments;
        by_load = subst (λ (t : Settings). RecallsMoments c.pass_bad-2.new.self (behind_bad t past.by_load)) c.by_load.ensures
            (passed past.by_load recalls.follows.by_load);
        asking = c.forget_all.ensures past.asking recalls.follows.asking;
        broadcasts = c.forget_all-2.ensures past.broadcasts recalls.follows.broadcasts;
        sessions = c.forget.ensures past.sessions recalls.follows.sessions;
      };
      number_is = recalls.number_is;
      interface_is = recalls.interface_is;
      taken_is = refl;
      again_is = recalls.again_is;
      frames_are = recalls.frames_are;
      skipped_are = recalls.skipped_are;
      bad_are = ap (λ (n : ℕ). n + 1) recalls.bad_are;
      elsewhere_are = recalls.elsewhere_are;
    })
    c.pass_bad-2.ensures.moments
