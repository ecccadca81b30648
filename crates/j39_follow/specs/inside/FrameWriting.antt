-- What is written at a frame.
use Rattle.std.specs.Prelude.{◌≡◌, ◌+◌, ◌<◌, ◌^◌, ℕ, Bool, List, [], ◌∷◌, ◌++◌, length, Option}
use Rattle.std.specs.Option.{option_to_list}
use Rattle.j39_id.specs.declared.frame.Frame.{Frame}
use Rattle.j39_network.specs.declared.plan.Plan.{Plan}
use Rattle.j39_log.specs.LogPairs.{Seen}
use Rattle.j39_log.specs.PairListeners.{AreAllInRange, IsInRange}
use Rattle.j39_tp.specs.declared.packet.Packet.{Packet}
use Rattle.j39_follow.specs.Contests.{Timed}
use Rattle.j39_follow.specs.FollowReports.{IsBareText, IsMessageReport, IsNotice, in_frame}
use Rattle.j39_follow.specs.FollowText.{IsFollowedAs, IsPacketReport, frames_seen}
use Rattle.j39_follow.specs.declared.message.Sort.{Sort}
use Rattle.j39_follow.specs.declared.request.event.Event.{Event}
use Rattle.j39_follow.specs.declared.pair.heard_pairs.HeardPairs.{HeardPairs}
use Rattle.j39_follow.specs.declared.request.exchanges.Exchanges.{Exchanges}
use Rattle.j39_follow.specs.inside.Exchanging.{AreExchanges, AreNoted}
use Rattle.j39_follow.specs.inside.Hearing.{HaveHeardOneMore, HaveHeardSince}

-- the frame, behind those before it
abbrev pub frames_with : List Seen → Frame → List Frame
frames_with seen f = frames_seen seen ++ f ∷ []

-- what a frame reports, what it is, or a line of its own, and what that counts as
pub record IsItselfWritten (plan : Plan) (all_frames : Bool) (log : List Timed) (front : List ℕ) (f : Frame) (sort : Sort) (old new : List ℕ) : Type 0 where
  pub notice : List ℕ
  pub report : List ℕ
  pub bare : List ℕ
  pub notice_is : IsNotice plan log front f notice
  pub report_is : IsMessageReport plan log front (in_frame f) sort report
  pub bare_is : IsBareText plan all_frames log front f (notice ++ report) bare
  pub text_is : new ≡ old ++ (notice ++ (report ++ bare))

-- and what it ends
pub record IsFrameWritten (plan : Plan) (all_frames : Bool) (pairs : HeardPairs) (seen : List Seen) (log : List Timed) (front : List ℕ) (f : Frame)
    (sort : Sort) (ended : Option Sort) (old new : List ℕ) : Type 0 where
  pub packet : Option Packet
  pub notice : List ℕ
  pub report : List ℕ
  pub bare : List ℕ
  pub carried : List ℕ
  pub heard_as : IsFollowedAs plan log f packet
  pub range : IsInRange packet
  pub notice_is : IsNotice plan log front f notice
  pub report_is : IsMessageReport plan log front (in_frame f) sort report
  pub bare_is : IsBareText plan all_frames log front f (notice ++ report) bare
  pub carried_is : IsPacketReport plan seen log front f packet (option_to_list ended) carried
  pub heard : HaveHeardOneMore plan pairs seen (record { frame = f; packet = packet })
  pub text_is : new ≡ old ++ (notice ++ (report ++ (bare ++ carried)))

-- by each log that is so the frame was written, and what it reports of requests was noted
pub record WritesFrame (IsSo : List Timed → Type 0) (plan : Plan) (all_frames : Bool) (front : List ℕ) (f : Frame) (sorts : Sort × Option Sort)
    (heard pairs : HeardPairs) (kept exchanges : Exchanges) (old new : List ℕ) : Type 0 where
  pub written : (seen : List Seen) (log : List Timed) → IsSo log → HaveHeardSince plan heard seen → AreAllInRange seen
      → IsFrameWritten plan all_frames pairs seen log front f sorts.0 sorts.1 old new
  pub noted : (log : List Timed) (events : List Event) → IsSo log → length events + 3 < 2 ^ 64 → AreExchanges plan kept events
      → AreNoted plan log f (sorts.0 ∷ option_to_list sorts.1) events exchanges
