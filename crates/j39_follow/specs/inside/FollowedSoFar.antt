-- What the follow command keeps of what came so far.
use Rattle.std.specs.Prelude.{◌≡◌, ◌*◌, ◌≤◌, ℕ, List, [], ◌∷◌, ◌++◌, length, Option, Some, None}
use Rattle.std.specs.Option.{option_to_list}
use Rattle.std.specs.declared.alloc.Global.{Global}
use Rattle.std.specs.declared.vec.Vec.{Vec}
use Rattle.j39_id.specs.Lines.{Line}
use Rattle.j39_id.specs.declared.frame.Frame.{Frame}
use Rattle.j39_network.specs.declared.plan.Plan.{Plan}
use Rattle.j39_log.specs.LogPairs.{Seen}
use Rattle.j39_log.specs.declared.line_counts.LineCounts.{LineCounts}
use Rattle.j39_log.specs.PairListeners.{AreAllInRange}
use Rattle.j39_follow.specs.Contests.{IsNow, Timed, frames_of}
use Rattle.j39_follow.specs.FollowText.{AreUnitLines, FollowedPast, FollowsLines, frames_seen, lines_with}
use Rattle.j39_follow.specs.FollowText.{nothing_followed}
use Rattle.j39_follow.specs.declared.address.contests.Contests.{Contests}
use Rattle.j39_follow.specs.declared.address.directory.Directory.{Directory}
use Rattle.j39_follow.specs.declared.line.stamp.Stamp.{Stamp}
use Rattle.j39_follow.specs.declared.message.Sort.{Sort}
use Rattle.j39_follow.specs.declared.request.event.Event.{Event}
use Rattle.j39_follow.specs.declared.pair.heard_pairs.HeardPairs.{HeardPairs}
use Rattle.j39_follow.specs.declared.unit_report.UnitReport.{UnitReport}
use Rattle.j39_follow.specs.inside.Contesting.{AreContests}
use Rattle.j39_follow.specs.inside.Exchanging.{AreExchanges, AreNoted}
use Rattle.j39_follow.specs.inside.FrameWriting.{IsFrameWritten, frames_with}
use Rattle.j39_follow.specs.inside.Hearing.{HaveHeardSince}
use Rattle.j39_follow.specs.inside.Recounting.{Knows}
use Rattle.j39_follow.specs.inside.Reporting.{front_of}
use Rattle.j39_follow.specs.inside.Tallies.{IsTally}

-- the interface that was kept
abbrev pub interface_of : Option (Vec ℕ Global) → Option (List ℕ)
interface_of None = None
interface_of (Some name) = Some name.items

-- who holds what, what each pair heard, what was sent and what was asked is as these report
pub record Remembers (plan : Plan) (report : UnitReport) (seen : List Seen) (timed : List Timed) (sent : List Sort) (events : List Event) : Type 0 where
  pub knows : Knows plan report.directory (frames_seen seen)
  pub contests : AreContests plan report.contests timed
  pub frames : frames_of timed ≡ frames_seen seen
  pub heard : HaveHeardSince plan report.pairs seen
  pub ranges : AreAllInRange seen
  pub tally : IsTally plan report.tally.value sent
  pub few : length sent ≤ 2 * length seen
  pub exchanges : AreExchanges plan report.exchanges events
  pub few_noted : length events ≤ 3 * length seen

-- what was read so far is this
pub record RecallsPast (plan : Plan) (report : UnitReport) (counts : LineCounts) (past : FollowedPast) : Type 0 where
  pub remembers : Remembers plan report past.seen past.timed past.sent past.events
  pub interface_is : interface_of report.interface ≡ past.interface
  pub frames_are : counts.frames ≡ length past.seen
  pub skipped_are : counts.skipped ≡ past.skipped
  pub bad_are : counts.bad ≡ past.bad
  pub elsewhere_are : counts.elsewhere ≡ past.elsewhere

-- which frames are reported, and the interface, stayed
pub record IsSameLog (old new : UnitReport) : Type 0 where
  pub all_frames : new.all_frames ≡ old.all_frames
  pub interface : new.interface ≡ old.interface

-- nothing but the listeners and what is kept of requests changed
pub record IsSameButWritten (old new : UnitReport) : Type 0 where
  pub directory : new.directory ≡ old.directory
  pub contests : new.contests ≡ old.contests
  pub tally : new.tally.value ≡ old.tally.value
  pub same : IsSameLog old new

-- who holds what, and what is contested, is known of these lines, the last of which is of this time
abbrev pub IsKnownSoFar : Plan → Directory → Contests → Option ℕ → List Timed → Type 0
IsKnownSoFar plan directory contests time log = Knows plan directory (frames_of log) × AreContests plan contests log × IsNow log time

-- the frame was written, what was sent was counted, and what it reports of requests was noted
pub record IsReported (plan : Plan) (old new : UnitReport) (past : FollowedPast) (s : Stamp) (f : Frame) (old_text new_text : List ℕ) : Type 0 where
  pub sort : Sort
  pub ended : Option Sort
  pub written : IsFrameWritten plan old.all_frames new.pairs past.seen (lines_with past f s.time.now) (front_of s) f sort ended old_text new_text
  pub tally : IsTally plan new.tally.value (past.sent ++ sort ∷ option_to_list ended)
  pub noted : AreNoted plan (lines_with past f s.time.now) f (sort ∷ option_to_list ended) past.events new.exchanges

-- the frame was written and counted, and what it reports was noted
pub record IsFollowed (plan : Plan) (old new : UnitReport) (past : FollowedPast) (s : Stamp) (f : Frame) (old_text new_text : List ℕ) : Type 0 where
  pub sort : Sort
  pub ended : Option Sort
  pub pairs : HeardPairs
  pub written : IsFrameWritten plan old.all_frames pairs past.seen (lines_with past f s.time.now) (front_of s) f sort ended old_text new_text
  pub knows : Knows plan new.directory (frames_with past.seen f)
  pub contests : AreContests plan new.contests (lines_with past f s.time.now)
  pub heard : HaveHeardSince plan new.pairs (past.seen ++ record { frame = f; packet = written.packet } ∷ [])
  pub tally : IsTally plan new.tally.value (past.sent ++ sort ∷ option_to_list ended)
  pub noted : AreNoted plan (lines_with past f s.time.now) f (sort ∷ option_to_list ended) past.events new.exchanges

-- what was read leads to a past that is kept, with as many lines, and what is written at it was written
pub record LeadsToPast (Reads : FollowedPast → List ℕ → Type 0) (plan : Plan) (new : UnitReport) (counts : LineCounts) (number : ℕ)
    (old_text new_text : List ℕ) : Type 0 where
  pub next : FollowedPast
  pub piece : List ℕ
  pub reads : Reads next piece
  pub recalls : RecallsPast plan new counts next
  pub number_is : next.number ≡ number
  pub text_is : new_text ≡ old_text ++ piece

-- these lines were read, this is written of them, and units stand so behind them
pub record HasFollowedLines (plan : Plan) (report : UnitReport) (counts : LineCounts) (ls : List Line) (reports : List ℕ) : Type 0 where
  pub past : FollowedPast
  pub units : List ℕ
  pub read : FollowsLines plan report.all_frames nothing_followed ls past reports
  pub recalls : RecallsPast plan report counts past
  pub number_is : past.number ≡ length ls
  pub units_are : AreUnitLines plan (frames_seen past.seen) 0 plan.units.items units
