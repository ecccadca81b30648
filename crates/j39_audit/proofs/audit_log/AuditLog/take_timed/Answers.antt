use Rattle.std.proofs.Common.{◌≡◌, ◌++◌, ℕ, Bool, List, Option, Some, None, refl, sym, ap, subst, ◌∙◌}
use Rattle.std.specs.Prelude.{IfNone, IfSome}
use Rattle.std.proofs.lemmas.Result.{IfOk-weaker}
use Rattle.j39_id.specs.declared.frame.Frame.{Frame}
use Rattle.j39_log.specs.LogFrames.{IsPacket}
use Rattle.j39_tp.specs.Packets.{InRange}
use Rattle.j39_tp.specs.declared.packet.Packet.{Packet}
use Rattle.j39_audit.specs.Asking.{asked_behind, asking_behind}
use Rattle.j39_audit.specs.AuditPasts.{AuditPast, claims_before, claims_with_frame, gap_before, past_with_frame}
use Rattle.j39_audit.specs.BegunBroadcasts.{broadcasts_before}
use Rattle.j39_audit.specs.Breaks.{breaks, newest_behind}
use Rattle.j39_audit.specs.Claiming.{HeardClaims, Knowledge, broken_off, come_to, knowledge, with_requests}
use Rattle.j39_audit.specs.Counting.{Noted}
use Rattle.j39_audit.specs.Gaps.{ends_gap}
use Rattle.j39_audit.specs.Looking.{IsPacketOf, break_noted, frame_noted}
use Rattle.j39_audit.specs.MessageStreams.{nothing_sighted, sighted_behind}
use Rattle.j39_audit.specs.Moments.{begins_anew}
use Rattle.j39_audit.specs.Pauses.{ending_of, unclear_behind}
use Rattle.j39_audit.specs.ToldSessions.{sessions_before}
use Rattle.j39_audit.specs.declared.announcements.Announcement.{Announcement}
use Rattle.j39_audit.specs.declared.audit_log.AuditLog.{AuditLog}
use Rattle.j39_audit.specs.declared.pauses.Ending.{Ending}
use Rattle.j39_audit.specs.declared.tally.Sighting.{Sighting}
use Rattle.j39_audit.specs.inside.Auditing.{FollowsNewFrame, RecallsTimes, times_behind}
use Rattle.j39_audit.specs.inside.Recalling.{AreCounted, KnowsClaims, Notes, settings_of}
use Rattle.j39_audit.proofs.Counted.{counted_on}
use Rattle.j39_audit.proofs.Knowing.{known_knowledge}
use Rattle.j39_audit.proofs.Noting.{notes_both}
use Rattle.j39_audit.proofs.audit_log.AuditLog.take_timed.Goals as goal

packet_of : (f : Frame) (found : Option Packet) → IfSome found (λ p. IsPacket f p × InRange p) → IfNone found ((p : Packet) → ¬ IsPacket f p)
    → IsPacketOf f found
packet_of f None some none = none
packet_of f (Some p) some none = some.0

pub returns-clause-frame : goal.returns-clause-frame
unfolding past_with_frame asking_behind
returns-clause-frame c =
    IfOk-weaker c.take_request.result _ _
    (λ _ asked. λ past named accords number.
    let s = settings_of c.args.self.now.basis in
    let time = c.args.time in
    let f = c.args.frame.now in
    let packet = c.transport_packet-packet.result in
    let broken : c.breaks-broken.result ≡ breaks s.stamps past.newest time =
    c.breaks-broken.ensures ∙ ap (λ (n : Option ℕ). breaks s.stamps n time) accords.newest_is in
    let anew : c.begins_anew-anew.result ≡ begins_anew s.stamps past.newest time =
    c.begins_anew-anew.ensures ∙ ap (λ (n : Option ℕ). begins_anew s.stamps n time) accords.newest_is in
    let gap : c.ends_gap-gap.result ≡ gap_before s past time = c.ends_gap-gap.ensures
    ∙ ap (λ (n : Option ℕ). ends_gap s.stamps s.quiet n c.args.self.now.before time) accords.newest_is
    ∙ ap (λ (b : Option ℕ). ends_gap s.stamps s.quiet past.newest b time) accords.before_is in
    let before = claims_before s past time in
    let known = subst (λ (x : HeardClaims). KnowsClaims s c.come_to.new.self x) (λ i. come_to (anew i) time (broken_off (broken i) past.claims))
    (c.come_to.ensures (broken_off c.breaks-broken.result past.claims) (c.take_break.ensures.known past.claims accords.knows)) in
    let took = c.in_ok-take_frame.ensures before known in
    let number_now = c.args.self.now.number in
    let clean = c.look_at_next.new.self in
    let noted = subst (λ (b : Bool). Notes clean c.take_break.new.tally (break_noted number_now b)) broken c.in_ok-take_break.ensures.noted in
    let both = notes_both noted took.1 in
    let lines : ℕ → List Noted = λ n. break_noted n (breaks s.stamps past.newest time) ++ frame_noted s before f packet n in
    let sights = both.sights ∙ ap (λ (w : Sighting). sighted_behind w (lines number_now)) c.look_at_next.ensures.nothing in
    let unclear = both.unclear ∙ ap (λ (ns : List ℕ). unclear_behind ns (lines number_now)) c.look_at_next.ensures.clear in
    let same_known : _ ≡ knowledge s before = known_knowledge s c.come_to.new.self before known in
    let ending : c.ending_of-ending.result ≡ ending_of s (knowledge s before) f = c.ending_of-ending.ensures
    ∙ ap (λ (k : Knowledge). ending_of s k f) same_known in
    let known_behind = known_knowledge s c.take_frame.new.known (claims_with_frame s past time f) took.0 in
    let there : Knowledge → Bool → Bool → Bool → Ending → ℕ → AuditPast = λ k o b a e n. record past {
      asking = asked_behind s k b a time f n past.asking;
      broadcasts = broadcasts_before a b e past.broadcasts;
      sessions = sessions_before o b past.sessions;
    } in
    let times : Knowledge → Knowledge → Bool → Bool → Bool → Ending → Option Announcement → ℕ → AuditPast = λ k l o b a e x n.
    times_behind s l b a time f n (lines n) e x (there k o b a e n) in
    let took_times = c.in_ok-take_times.ensures.times (there _ c.breaks-broken.result c.ends_gap-gap.result c.begins_anew-anew.result c.ending_of-ending.result number_now)
    (lines number_now)
    (record {
      moments = accords.moments;
      by_load = accords.by_load;
      asking = c.take.ensures past.asking accords.asking;
      broadcasts = c.come_to-2.ensures past.broadcasts accords.broadcasts;
      sessions = c.come_to-3.ensures past.sessions accords.sessions;
    }) sights unclear in
    let are = subst (λ (p : AuditPast). RecallsTimes s c.take_times.new.self p)
    (λ i. times (same_known i) (known_behind i) (broken i) (gap i) (anew i) (ending i) (c.announcement_in-announced.ensures i) (number i)) took_times in
    let kept = sym c.take_times.ensures.kept in
    let heard = claims_with_frame s past time f in
    let last = c.take_request.new.self in
    let requested = sights ∙ ap (λ (n : ℕ). sighted_behind nothing_sighted (lines n)) number in
    let is_asked = asked heard (subst (λ (log : AuditLog). KnowsClaims (settings_of log.basis) log.known heard) kept took.0) in
    subst (λ (log : AuditLog). KnowsClaims (settings_of log.basis) last (with_requests log.basis.plan.now time f log.tally.sighting.request heard)
    → FollowsNewFrame (record log { known = last }) past time named f) kept
    (λ knows. record {
      packet = packet;
      packet_is = packet_of f packet c.transport_packet-packet.ensures.found c.transport_packet-packet.ensures.none;
      follows = record {
        knows = subst (λ (w : Sighting). KnowsClaims s last (with_requests s.plan time f w.request heard)) requested knows;
        counted = subst (λ (n : ℕ). AreCounted c.take_frame.new.tally (past.noted ++ lines n)) number
            (both.counts past.noted (counted_on c.args.self.now.tally clean past.noted c.look_at_next.ensures.found accords.counted));
        newest_is = c.newest_behind-self.ensures ∙ ap (λ (n : Option ℕ). newest_behind s.stamps n time) accords.newest_is;
        before_is = refl;
        moments = are.moments;
        by_load = are.by_load;
        asking = are.asking;
        broadcasts = are.broadcasts;
        sessions = are.sessions;
      };
      sights = requested;
    }) is_asked)
    c.take_request.ensures
