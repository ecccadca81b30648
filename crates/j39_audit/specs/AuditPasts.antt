-- What came of a log so far, and what its lines do to it.
use Rattle.std.specs.Prelude.{◌≡◌, ℕ, ◌+◌, min, ◌⊎◌, nat_lt, Bool, true, false, if◌then◌else◌, List, [], ◌∷◌, ◌++◌, Option, Some, None}
use Rattle.j39_id.specs.FrameLine.{Spells, HasLineFault}
use Rattle.j39_id.specs.Lines.{Line, Short as ShortLine, Long, lines}
use Rattle.j39_id.specs.declared.frame.Frame.{Frame}
use Rattle.j39_id.specs.declared.line_error.LineError.{LineError}
use Rattle.j39_id.specs.declared.line_error.LineError.TheVariants.{Empty, ShortIdent}
use Rattle.j39_follow.specs.LogLines.{IsElsewhere, IsReadPart, IsTimeText, NamesInterface, interface_behind}
use Rattle.j39_tp.specs.declared.packet.Packet.{Packet}
use Rattle.j39_audit.specs.Again.{broadcasts_again, is_again, moments_again, taken_frame}
use Rattle.j39_audit.specs.Asking.{Asking, all_forgotten, asking_behind, nobody_asked as no_asking}
use Rattle.j39_audit.specs.BegunBroadcasts.{BegunBroadcasts, all_ended as all_broadcasts_ended, announcement_in, broadcasts_before, broadcasts_behind, no_broadcasts, packet_with}
use Rattle.j39_audit.specs.Breaks.{breaks, line_time, newest_behind}
use Rattle.j39_audit.specs.Claiming.{HeardClaims, broken_off, come_to, knowledge, no_claims, with_requests}
use Rattle.j39_audit.specs.Counting.{Noted, most_times}
use Rattle.j39_audit.specs.Gaps.{ends_gap}
use Rattle.j39_audit.specs.Looking.{IsPacketOf, break_noted, claims_behind, frame_noted, noted_if}
use Rattle.j39_audit.specs.Moments.{Moments, all_pauses_ended, begins_anew, behind_bad, behind_gap, moments_behind, no_moments, with_packet_stream}
use Rattle.j39_audit.specs.MessageStreams.{nothing_sighted, sighted_behind}
use Rattle.j39_audit.specs.Pauses.{ending_of}
use Rattle.j39_audit.specs.SentMessages.{noted_at}
use Rattle.j39_audit.specs.Settings.{Settings, by_load as judged_by_load}
use Rattle.j39_audit.specs.ToldSessions.{ToldSessions, forgotten, no_sessions_told, sessions_before, sessions_with_frame}
use Rattle.j39_audit.specs.declared.again.TakenFrame.{TakenFrame}
use Rattle.j39_audit.specs.declared.mark.Word.TheVariants.{Short}

-- ---- a log

-- what came so far: how many lines, the interface of the log, the newest time, that of the frame before, this frame where nothing that is skipped or bad came
-- since, how many stand there again, the claims, what was noted, what the times report by the bus and by
-- load, who is asked for claims, the planned broadcasts, the sessions, and how many lines there were of each sort
pub record AuditPast : Type 0 where
  pub number : ℕ
  pub interface : Option (List ℕ)
  pub newest : Option ℕ
  pub before : Option ℕ
  pub taken : Option TakenFrame
  pub again : ℕ
  pub claims : HeardClaims
  pub noted : List Noted
  pub moments : Moments
  pub by_load : Moments
  pub asking : Asking
  pub broadcasts : BegunBroadcasts
  pub sessions : ToldSessions
  pub frames : ℕ
  pub skipped : ℕ
  pub bad : ℕ
  pub elsewhere : ℕ

abbrev pub nothing_read : AuditPast
nothing_read = record {
  number = 0;
  interface = None;
  newest = None;
  before = None;
  taken = None;
  again = 0;
  claims = no_claims;
  noted = [];
  moments = no_moments;
  by_load = no_moments;
  asking = no_asking;
  broadcasts = no_broadcasts;
  sessions = no_sessions_told;
  frames = 0;
  skipped = 0;
  bad = 0;
  elsewhere = 0;
}

abbrev pub bad_line : Settings → AuditPast → AuditPast
bad_line s past = record past {
  bad = past.bad + 1;
  taken = None;
  moments = behind_bad s past.moments;
  by_load = behind_bad (judged_by_load s) past.by_load;
  asking = all_forgotten past.asking;
  broadcasts = all_broadcasts_ended past.broadcasts;
  sessions = forgotten past.sessions;
}

-- a line of an 11-bit identifier is skipped, which is reported of behind the first frame; one without a word isn't counted
abbrev pub skipped_line : AuditPast → AuditPast
skipped_line past = record past {
  skipped = past.skipped + 1;
  taken = None;
  noted = past.noted ++ noted_if (nat_lt 0 past.frames) (noted_at past.number Short 0 0);
  moments = behind_gap past.moments;
  by_load = behind_gap past.by_load;
}

abbrev pub passed_by : Settings → LineError → AuditPast → AuditPast
passed_by s Empty past = past
passed_by s ShortIdent past = skipped_line past
passed_by s _ past = bad_line s past

-- the claims just before a frame of this time
abbrev pub claims_before : Settings → AuditPast → Option ℕ → HeardClaims
claims_before s past time =
    come_to (begins_anew s.stamps past.newest time) time (broken_off (breaks s.stamps past.newest time) past.claims)

-- a gap ends just before it
abbrev pub gap_before : Settings → AuditPast → Option ℕ → Bool
gap_before s past time = ends_gap s.stamps s.quiet past.newest past.before time

-- what is noted at a frame of this time and packet, and what the times report behind it
abbrev pub noted_newly : Settings → AuditPast → Option ℕ → Frame → Option Packet → List Noted
noted_newly s past time f packet =
    break_noted past.number (breaks s.stamps past.newest time) ++ frame_noted s (claims_before s past time) f packet past.number

-- by settings of this bound
abbrev pub moments_with_frame : Settings → Settings → AuditPast → Option ℕ → Frame → Option Packet → Moments → Moments
moments_with_frame bounds s past time f packet m =
    moments_behind bounds (gap_before s past time) (begins_anew s.stamps past.newest time) time f past.number
    (noted_newly s past time f packet) (ending_of s (knowledge s (claims_before s past time)) f) m

-- the unit for which it counts, if it does; the broadcasts just before it; and the claims behind it, of which one that announces is none
abbrev pub counted_for : Settings → AuditPast → Option ℕ → Frame → Option Packet → Option ℕ
counted_for s past time f packet = (sighted_behind nothing_sighted (noted_newly s past time f packet)).unit

abbrev pub broadcasts_there : Settings → AuditPast → Option ℕ → Frame → BegunBroadcasts
broadcasts_there s past time f = broadcasts_before (begins_anew s.stamps past.newest time) (gap_before s past time)
    (ending_of s (knowledge s (claims_before s past time)) f) past.broadcasts

-- the sessions just before it
abbrev pub sessions_there : Settings → AuditPast → Option ℕ → ToldSessions
sessions_there s past time = sessions_before (breaks s.stamps past.newest time) (gap_before s past time) past.sessions

abbrev pub claims_with_frame : Settings → AuditPast → Option ℕ → Frame → HeardClaims
claims_with_frame s past time f = claims_behind s f (claims_before s past time)

-- what came, with a frame of this time and packet of a line that names this interface
unfoldable pub past_with_frame : Settings → AuditPast → Option ℕ → Option (List ℕ) → Frame → Option Packet → AuditPast
past_with_frame s past time named f packet = record past {
  interface = interface_behind past.interface named;
  newest = newest_behind s.stamps past.newest time;
  before = time;
  taken = taken_frame time f past.number (sighted_behind nothing_sighted (noted_newly s past time f packet));
  claims = with_requests s.plan time f (sighted_behind nothing_sighted (noted_newly s past time f packet)).request (claims_with_frame s past time f);
  noted = past.noted ++ noted_newly s past time f packet;
  moments = with_packet_stream s time past.number (packet_with s.plan.timing (counted_for s past time f packet) f (broadcasts_there s past time f))
      (moments_with_frame s s past time f packet past.moments);
  by_load = moments_with_frame (judged_by_load s) s past time f packet past.by_load;
  asking = asking_behind s (knowledge s (claims_before s past time)) (gap_before s past time) (begins_anew s.stamps past.newest time) time
      f past.number (counted_for s past time f packet) (moments_with_frame s s past time f packet past.moments).since past.asking;
  broadcasts = broadcasts_behind s (knowledge s (claims_with_frame s past time f)) (counted_for s past time f packet) f (announcement_in packet) time
      (moments_with_frame s s past time f packet past.moments).since past.number (broadcasts_there s past time f);
  sessions = sessions_with_frame s (counted_for s past time f packet) f past.number (sessions_there s past time);
  frames = past.frames + 1;
}

-- with a frame of this flow, unit and line that stands there again, at this time; one that asks asks again
abbrev pub with_again : Settings → Option ℕ → Option ℕ → ℕ → ℕ → AuditPast → AuditPast
with_again s flow unit line time past = record past {
  again = min (past.again + 1) most_times;
  moments = moments_again s flow time past.moments;
  by_load = moments_again s flow time past.by_load;
  broadcasts = broadcasts_again s unit line time past.broadcasts;
}

unfoldable pub past_again : Settings → Option TakenFrame → Option ℕ → AuditPast → AuditPast
past_again s (Some one) (Some time) past =
    record (with_again s one.flow one.unit one.line time past) { claims = with_requests s.plan (Some time) one.frame one.request past.claims }
past_again s _ _ past = past

-- and of a line that names this interface
abbrev pub past_with_again : Settings → Option ℕ → Option (List ℕ) → AuditPast → AuditPast
past_with_again s time named past = record (past_again s past.taken time past) { interface = interface_behind past.interface named }

-- a frame of this time stands there again, or it is taken as some packet or none
abbrev pub TakesFrame : Settings → AuditPast → Option ℕ → Option (List ℕ) → Frame → AuditPast → Type 0
TakesFrame s past time named f next =
    ((is_again s.plan past.taken time f ≡ true) × (next ≡ past_with_again s time named past))
    ⊎ ((is_again s.plan past.taken time f ≡ false) × ((packet : Option Packet) × IsPacketOf f packet × (next ≡ past_with_frame s past time named f packet)))

abbrev pub AuditsFrame : Settings → AuditPast → List ℕ → Option (List ℕ) → Frame → AuditPast → Type 0
AuditsFrame s past time named f next = TakesFrame s past (line_time s.plan time) named f next

-- a line that isn't elsewhere is read: as the frame that its part spells, or it is passed over
abbrev pub AuditsPart : Settings → AuditPast → List ℕ → List ℕ → Option (List ℕ) → AuditPast → Type 0
AuditsPart s past line part named next =
    ((f : Frame) × (time : List ℕ) × Spells part f × IsTimeText line time × AuditsFrame s past time named f next)
    ⊎ ((e : LineError) × HasLineFault part e × (next ≡ passed_by s e past))

abbrev pub AuditsShort : Settings → AuditPast → List ℕ → AuditPast → Type 0
AuditsShort s past line next =
    (part : List ℕ) × (named : Option (List ℕ)) × IsReadPart line part × NamesInterface part named
    × ((IsElsewhere past.interface part named × (next ≡ record past { elsewhere = past.elsewhere + 1 }))
    ⊎ ((¬ IsElsewhere past.interface part named) × AuditsPart s past line part named next))

abbrev pub with_next_number : AuditPast → AuditPast
with_next_number past = record past { number = past.number + 1 }

abbrev pub AuditsLine : Settings → AuditPast → Line → AuditPast → Type 0
AuditsLine s past (ShortLine line) next = AuditsShort s (with_next_number past) line next
AuditsLine s past Long next = next ≡ bad_line s (with_next_number past)

-- so do all lines, one after another
abbrev pub AuditsLines : Settings → AuditPast → List Line → AuditPast → Type 0
AuditsLines s past [] end = end ≡ past
AuditsLines s past (line ∷ rest) end = (next : AuditPast) × AuditsLine s past line next × AuditsLines s next rest end

-- behind the last line all pauses end
abbrev pub log_ended : Settings → AuditPast → AuditPast
log_ended s past = record past { moments = all_pauses_ended s past.moments; by_load = all_pauses_ended (judged_by_load s) past.by_load }
