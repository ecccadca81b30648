use Rattle.std.proofs.Common.{ap, subst, ◌∙◌}
use Rattle.std.proofs.lemmas.Result.{IfOk-weaker}
use Rattle.j39_audit.specs.Moments.{all_pauses_ended}
use Rattle.j39_audit.specs.Settings.{Settings, by_load}
use Rattle.j39_audit.specs.inside.Recalling.{RecallsMoments}
use Rattle.j39_audit.proofs.audit_log.AuditLog.end.Goals as goal

pub returns : goal.returns
returns c =
    IfOk-weaker c.end_all-2.result _ _
    (λ _ ended. λ s ls audited.
    let old = audited.recalls in
    record {
      past = audited.past;
      read = audited.read;
      recalls = record {
        follows = record {
          knows = old.follows.knows;
          counted = old.follows.counted;
          newest_is = old.follows.newest_is;
          before_is = old.follows.before_is;
          moments = subst (λ (t : Settings). RecallsMoments c.end_all.new.self (all_pauses_ended t audited.past.moments)) audited.settings_are
              (c.in_ok-end_all.ensures.moments audited.past.moments old.follows.moments);
          by_load = subst (λ (t : Settings). RecallsMoments c.end_all-2.new.self (all_pauses_ended t audited.past.by_load))
              (c.by_load.ensures ∙ ap (λ (t : Settings). by_load t) audited.settings_are) (ended audited.past.by_load old.follows.by_load);
          asking = old.follows.asking;
          broadcasts = old.follows.broadcasts;
          sessions = old.follows.sessions;
        };
        number_is = old.number_is;
        interface_is = old.interface_is;
        taken_is = old.taken_is;
        again_is = old.again_is;
        frames_are = old.frames_are;
        skipped_are = old.skipped_are;
        bad_are = old.bad_are;
        elsewhere_are = old.elsewhere_are;
      };
      settings_are = audited.settings_are;
    })
    c.end_all-2.ensures.moments
