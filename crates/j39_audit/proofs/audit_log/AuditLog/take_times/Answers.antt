use Rattle.std.proofs.Common.{◌≡◌, ℕ, Option, ap, subst, ◌∙◌}
use Rattle.j39_audit.specs.Asking.{with_sign_of}
use Rattle.j39_audit.specs.BegunBroadcasts.{broadcasts_behind, packet_with}
use Rattle.j39_audit.specs.Moments.{moments_behind, with_packet_stream}
use Rattle.j39_audit.specs.Settings.{Settings}
use Rattle.j39_audit.specs.ToldSessions.{sessions_with_frame}
use Rattle.j39_audit.specs.declared.tally.Sighting.{Sighting}
use Rattle.j39_audit.specs.inside.Auditing.{noted_unit}
use Rattle.j39_audit.specs.inside.Recalling.{RecallsAsking, RecallsBroadcasts, RecallsMoments, RecallsSessions, known_by, settings_of}
use Rattle.j39_audit.proofs.audit_log.AuditLog.take_times.Goals as goal

pub returns-clause-times : goal.returns-clause-times
returns-clause-times c = λ past noted before sights unclear.
    let old = c.args.self.now in
    let s = settings_of old.basis in
    let f = c.args.frame.now in
    let line = old.number in
    let here = c.as_slice.ensures.value ∙ unclear in
    let unit : old.tally.sighting.unit ≡ noted_unit noted = ap (λ (w : Sighting). w.unit) sights in
    let timed = moments_behind s c.args.gap c.args.anew c.args.time f line noted c.args.ending past.moments in
    let looked = c.in_ok-look.ensures.moments past.moments noted before.moments sights here in
    let packed = c.take_packet.new.moments in
    let begun = c.take_packet.new.broadcasts in
    record {
      moments = subst (λ (u : Option ℕ). RecallsMoments packed (with_packet_stream s c.args.time line
          (packet_with s.plan.timing u f past.broadcasts) timed)) unit
          (c.in_ok-take_packet.ensures.moments timed past.broadcasts looked before.broadcasts);
      by_load = subst (λ (t : Settings). RecallsMoments c.look-2.new.self
          (moments_behind t c.args.gap c.args.anew c.args.time f line noted c.args.ending past.by_load)) c.by_load.ensures
          (c.in_ok-look-2.ensures.moments past.by_load noted before.by_load sights here);
      asking = subst (λ (u : Option ℕ). RecallsAsking s c.take_sign.new.self (with_sign_of s.plan.timing u timed.since past.asking)) unit
          (subst (λ (q : Option ℕ). RecallsAsking s c.take_sign.new.self (with_sign_of s.plan.timing old.tally.sighting.unit q past.asking)) looked.since
          (c.in_ok-take_sign.ensures past.asking before.asking));
      broadcasts = subst (λ (u : Option ℕ). RecallsBroadcasts s begun
          (broadcasts_behind s (known_by old.known) u f c.args.announced c.args.time timed.since line past.broadcasts)) unit
          (subst (λ (q : Option ℕ). RecallsBroadcasts s begun
          (broadcasts_behind s (known_by old.known) old.tally.sighting.unit f c.args.announced c.args.time q line past.broadcasts)) looked.since
          (c.in_ok-take_packet.ensures.broadcasts past.broadcasts before.broadcasts));
      sessions = subst (λ (u : Option ℕ). RecallsSessions c.take.new.self (sessions_with_frame s u f line past.sessions)) unit
          (c.in_ok-take.ensures past.sessions before.sessions);
    }
