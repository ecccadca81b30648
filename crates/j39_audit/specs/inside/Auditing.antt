-- What an audit keeps of the lines that were read.
use Rattle.std.specs.Prelude.{◌≡◌, ◌≤◌, ℕ, Bool, if◌then◌else◌, List, length, Option}
use Rattle.std.specs.Io.KnownBytes.{Consumes, IsAtEnd}
use Rattle.j39_id.specs.Lines.{Line, lines}
use Rattle.j39_id.specs.declared.frame.Frame.{Frame}
use Rattle.j39_follow.specs.inside.FollowedSoFar.{interface_of}
use Rattle.j39_log.specs.LineCounting.{AreWithin}
use Rattle.j39_network.specs.declared.plan.Plan.{Plan}
use Rattle.j39_stream.specs.declared.verdict.Verdict.{Verdict}
use Rattle.j39_tp.specs.declared.packet.Packet.{Packet}
use Rattle.j39_audit.specs.AuditPasts.{AuditPast, AuditsLines, AuditsShort, TakesFrame, log_ended, noted_newly, nothing_read, past_with_frame}
use Rattle.j39_audit.specs.AuditText.{Look, accusation_count, flow_seen, request_seen, unit_seen, is_of_asking, is_of_broadcasts, is_of_moments, is_of_sessions, text_by, verdict_by, is_of_load, mark_by_bus}
use Rattle.j39_audit.specs.Asking.{with_sign_of}
use Rattle.j39_audit.specs.BegunBroadcasts.{broadcasts_behind, packet_with}
use Rattle.j39_audit.specs.Below.{each_below}
use Rattle.j39_audit.specs.Claiming.{Knowledge}
use Rattle.j39_audit.specs.Counting.{Noted, key_of}
use Rattle.j39_audit.specs.Looking.{IsPacketOf}
use Rattle.j39_audit.specs.MessageStreams.{nothing_sighted, sighted_behind}
use Rattle.j39_audit.specs.Moments.{moments_behind, with_packet_stream}
use Rattle.j39_audit.specs.Settings.{Settings, by_load as judged_by_load}
use Rattle.j39_audit.specs.ToldSessions.{sessions_with_frame}
use Rattle.j39_audit.specs.declared.announcements.Announcement.{Announcement}
use Rattle.j39_audit.specs.declared.audit_log.AuditLog.{AuditLog}
use Rattle.j39_audit.specs.declared.mark.Mark.{Mark}
use Rattle.j39_audit.specs.declared.mark.Word.{Word}
use Rattle.j39_audit.specs.declared.mark.Word.TheVariants.{Seen, Asked}
use Rattle.j39_audit.specs.declared.pauses.Ending.{Ending}
use Rattle.j39_audit.specs.declared.tally.Occurrences.{Occurrences}
use Rattle.j39_audit.specs.inside.Recalling.{AreCounted, AreNear, KnowsClaims, RecallsAsking, RecallsBroadcasts, RecallsMoments, RecallsSessions, tallied_at, settings_of}

-- what was found of a mark
unfoldable pub tallied : AuditLog → Mark → Occurrences
tallied log m =
    if is_of_moments m.word then tallied_at log.moments.untimely (key_of m)
    else if is_of_load m.word then tallied_at log.by_load.untimely (key_of (mark_by_bus m))
    else if is_of_asking m.word then tallied_at log.asking.deaf (key_of m)
    else if is_of_broadcasts m.word then tallied_at log.broadcasts.late (key_of m)
    else if is_of_sessions m.word then tallied_at log.sessions.told (key_of m) else tallied_at log.tally (key_of m)

-- ---- what was seen

-- of how many flows, requests or units a word is counted, and what is written of each
abbrev pub seen_places : Word → Plan → ℕ
seen_places Seen plan = length plan.flows.items
seen_places Asked plan = length plan.requests.items
seen_places _ plan = length plan.units.items

abbrev pub seen_at : Word → Plan → Look → ℕ → List ℕ
seen_at Seen plan look = flow_seen plan look
seen_at Asked plan look = request_seen plan look
seen_at _ plan look = unit_seen plan look

abbrev pub all_seen : Word → Plan → Look → List ℕ
all_seen word plan look = each_below (seen_at word plan look) (seen_places word plan)

-- ---- a log

-- the claims, what was noted, the newest time, that of the frame before, what times report, who is asked, the planned broadcasts and the sessions are these
pub record AccordsWith (log : AuditLog) (past : AuditPast) : Type 0 where
  pub knows : KnowsClaims (settings_of log.basis) log.known past.claims
  pub counted : AreCounted log.tally past.noted
  pub newest_is : log.newest ≡ past.newest
  pub before_is : log.before ≡ past.before
  pub moments : RecallsMoments log.moments past.moments
  pub by_load : RecallsMoments log.by_load past.by_load
  pub asking : RecallsAsking (settings_of log.basis) log.asking past.asking
  pub broadcasts : RecallsBroadcasts (settings_of log.basis) log.broadcasts past.broadcasts
  pub sessions : RecallsSessions log.sessions past.sessions

-- what was read so far is this
pub record RecallsAudit (log : AuditLog) (past : AuditPast) : Type 0 where
  pub follows : AccordsWith log past
  pub number_is : log.number ≡ past.number
  pub interface_is : interface_of log.interface ≡ past.interface
  pub taken_is : log.taken ≡ past.taken
  pub again_is : log.again ≡ past.again
  pub frames_are : log.counts.frames ≡ past.frames
  pub skipped_are : log.counts.skipped ≡ past.skipped
  pub bad_are : log.counts.bad ≡ past.bad
  pub elsewhere_are : log.counts.elsewhere ≡ past.elsewhere

-- what times report, who is asked, the planned broadcasts and the sessions are these
pub record RecallsTimes (s : Settings) (log : AuditLog) (past : AuditPast) : Type 0 where
  pub moments : RecallsMoments log.moments past.moments
  pub by_load : RecallsMoments log.by_load past.by_load
  pub asking : RecallsAsking s log.asking past.asking
  pub broadcasts : RecallsBroadcasts s log.broadcasts past.broadcasts
  pub sessions : RecallsSessions log.sessions past.sessions

-- nothing but this is new
abbrev pub AreOnlyTimesNew : AuditLog → AuditLog → Type 0
AreOnlyTimesNew old new = new ≡ record old { moments = new.moments; by_load = new.by_load; asking = new.asking; broadcasts = new.broadcasts; sessions = new.sessions }

-- for whom a frame counts of which this was noted
abbrev pub noted_unit : List Noted → Option ℕ
noted_unit noted = (sighted_behind nothing_sighted noted).unit

-- what it is behind a frame of this time and line, of which this was noted, at which these pauses end, and which announces this
abbrev pub times_behind : Settings → Knowledge → Bool → Bool → Option ℕ → Frame → ℕ → List Noted → Ending → Option Announcement → AuditPast → AuditPast
times_behind s k gap anew time f line noted ending announced past = record past {
  moments = with_packet_stream s time line (packet_with s.plan.timing (noted_unit noted) f past.broadcasts)
      (moments_behind s gap anew time f line noted ending past.moments);
  by_load = moments_behind (judged_by_load s) gap anew time f line noted ending past.by_load;
  asking = with_sign_of s.plan.timing (noted_unit noted) (moments_behind s gap anew time f line noted ending past.moments).since past.asking;
  broadcasts = broadcasts_behind s k (noted_unit noted) f announced time (moments_behind s gap anew time f line noted ending past.moments).since line
      past.broadcasts;
  sessions = sessions_with_frame s (noted_unit noted) f line past.sessions;
}

-- a frame of this time and of a line of this interface, as some packet or none, leads to what is followed now, and was seen so
pub record FollowsNewFrame (new : AuditLog) (past : AuditPast) (time : Option ℕ) (named : Option (List ℕ)) (f : Frame) : Type 0 where
  pub packet : Option Packet
  pub packet_is : IsPacketOf f packet
  pub follows : AccordsWith new (past_with_frame (settings_of new.basis) past time named f packet)
  pub sights : new.tally.sighting ≡ sighted_behind nothing_sighted (noted_newly (settings_of new.basis) past time f packet)

-- and to what is recalled now
pub record TakesFrameNew (new : AuditLog) (past : AuditPast) (time : Option ℕ) (named : Option (List ℕ)) (f : Frame) : Type 0 where
  pub packet : Option Packet
  pub packet_is : IsPacketOf f packet
  pub recalls : RecallsAudit new (past_with_frame (settings_of new.basis) past time named f packet)

-- a frame, which may stand there again, leads to a past that is recalled
pub record TakesFrameLine (new : AuditLog) (past : AuditPast) (time : Option ℕ) (named : Option (List ℕ)) (f : Frame) : Type 0 where
  pub next : AuditPast
  pub takes : TakesFrame (settings_of new.basis) past time named f next
  pub recalls : RecallsAudit new next
  pub number_is : next.number ≡ past.number

-- a line leads to a past that is recalled
pub record TakesLine (new : AuditLog) (past : AuditPast) (line : List ℕ) : Type 0 where
  pub next : AuditPast
  pub reads : AuditsShort (settings_of new.basis) past line next
  pub recalls : RecallsAudit new next
  pub number_is : next.number ≡ past.number

-- these lines were read by these settings
pub record HasAudited (s : Settings) (log : AuditLog) (ls : List Line) : Type 0 where
  pub past : AuditPast
  pub read : AuditsLines s nothing_read ls past
  pub recalls : RecallsAudit log past
  pub number_is : past.number ≡ length ls
  pub settings_are : settings_of log.basis ≡ s

-- and there are no more
pub record HasAuditedWhole (s : Settings) (log : AuditLog) (ls : List Line) : Type 0 where
  pub past : AuditPast
  pub read : AuditsLines s nothing_read ls past
  pub recalls : RecallsAudit log (log_ended s past)
  pub settings_are : settings_of log.basis ≡ s

-- no moment that is kept lies far ahead
pub record AreAllNear (log : AuditLog) : Type 0 where
  pub by_bus : AreNear log.moments
  pub by_load : AreNear log.by_load

-- no more lines were counted than this, and no moment that is kept lies far ahead
pub record IsWithinLines (log : AuditLog) (most : ℕ) : Type 0 where
  pub number : log.number ≤ most
  pub counts : AreWithin log.counts most
  pub near : AreAllNear log

-- all that was left was read, to its end
pub record HasReadLog (s : Settings) (log : AuditLog) (old new : Option (List ℕ)) : Type 0 where
  pub input : List ℕ
  pub consumed : Consumes old new input
  pub end : IsAtEnd new
  pub ended : HasAuditedWhole s log (lines input)

-- what is written of the log that was read, with the verdict
pub record IsAuditReport (log : AuditLog) (text : List ℕ) (verdict : Verdict) : Type 0 where
  pub text_is : text ≡ text_by (settings_of log.basis) log.counts log.again (tallied log)
  pub verdict_is : verdict ≡ verdict_by (accusation_count (settings_of log.basis) (tallied log))
