-- Which flows are found for certain to be silent, by the lines of a log.
use Rattle.std.specs.Prelude.{◌≡◌, ◌⊎◌, ℕ, ◌+◌, ◌-◌, ◌*◌, ◌<◌, ◌≤◌, List, length, Some}
use Rattle.std.specs.List.{slice_get}
use Rattle.j39_id.specs.Lines.{Line, lines}
use Rattle.j39_network.specs.declared.plan.flow_plan.FlowPlan.{FlowPlan}
use Rattle.j39_network.specs.declared.plan.timing.Timing.{Timing}
use Rattle.j39_network.specs.declared.plan.to.To.TheVariants.{One as ToOne}
use Rattle.j39_timing.specs.Messages.{frame_end}
use Rattle.j39_timing.specs.TimedFrames.{Schedule}
use Rattle.j39_stream.specs.declared.verdict.Verdict.{Verdict}
use Rattle.j39_stream.specs.declared.verdict.Verdict.TheVariants.{Findings}
use Rattle.j39_audit.specs.AuditText.{IsAuditedLog, mark_at}
use Rattle.j39_audit.specs.MessageStreams.{flow_pause}
use Rattle.j39_audit.specs.Settings.{Settings, by_load as judged_by_load, logger_error}
use Rattle.j39_audit.specs.declared.mark.Mark.{Mark}
use Rattle.j39_audit.specs.declared.mark.Word.TheVariants.{SilentFlow, SilentOrLate}
use Rattle.j39_audit.specs.declared.streams.FlowPause.{FlowPause}
use Rattle.j39_audit.specs.declared.tally.Occurrences.{Occurrences}
use Rattle.j39_audit_laws.specs.FoundForSure.{IsWrittenIn}
use Rattle.j39_audit_laws.specs.MarkRecords.{IsTimeOf, KeepsTime}
use Rattle.j39_audit_laws.specs.PauseLines.{CountsFor, EndsPauseAt, FrameLine, IsAgainOf, IsMessageAt, IsSeenOf, StandsForMessage, time_there}

-- an end of the flow: its sender, or its one receiver
abbrev pub IsEndOfFlow : FlowPlan → ℕ → Type 0
IsEndOfFlow flow u = (flow.sender ≡ u) ⊎ (flow.to ≡ ToOne u)

-- ---- records

-- the frames of a log are frames of a bus, in the order of their ends, and the time of each is that of its end, within the logger's error
pub record AreFramesOnBus (s : Settings) (log : List Line) (bus : Schedule) (clock : ℕ → ℕ) (frame : ℕ → ℕ) : Type 0 where
  pub times : (number time : ℕ) (l : FrameLine s log number) → time_there l ≡ Some time
      → IsTimeOf clock (logger_error s) time (frame_end bus (frame number))
  pub in_turn : (a b : ℕ) → FrameLine s log a → FrameLine s log b → a ≤ b → frame_end bus (frame a) ≤ frame_end bus (frame b)

-- behind the first line, up to the last one, a frame counts for the unit, and from the end of the first one to its end a time passes that is longer
-- than a pause, the time in which a message is sent, and what clocks and times of lines may differ
pub record IsThereStill (s : Settings) (log : List Line) (us : ℕ) (bus : Schedule) (frame : ℕ → ℕ) (span first last u : ℕ) : Type 0 where
  pub number : ℕ
  pub behind : first < number
  pub by : number ≤ last
  pub line : FrameLine s log number
  pub counts : CountsFor line u
  pub long : 1000 * (span + 4 * logger_error s) < 999 * (us * (frame_end bus (frame number) - frame_end bus (frame first)))

-- a flow with a pause, and with a time in which each of its messages is sent, of which no message comes for so long while its ends are there
pub record IsLongSilent (s : Settings) (t : Timing) (log : List Line) (us : ℕ) (bus : Schedule) (frame : ℕ → ℕ) (n : ℕ) : Type 0 where
  pub flow : FlowPlan
  pub flow_is : slice_get s.plan.flows.items n ≡ Some flow
  pub pause : FlowPause
  pub pause_is : flow_pause (judged_by_load s) t n ≡ Some pause
  pub slack : ℕ
  pub slack_is : pause.slack ≡ Some slack
  -- a message of it, and behind this one a frame of each end, so much later; up to these there is none, and its pause doesn't end
  pub first : ℕ
  pub message : IsMessageAt s log first n
  pub last : ℕ
  pub still : (u : ℕ) → IsEndOfFlow flow u → IsThereStill s log us bus frame (pause.pause + slack) first last u
  pub none_between : (number : ℕ) (l : FrameLine s log number) → first < number → number < last → ¬ IsSeenOf l n
  pub unended : (number : ℕ) → first < number → number ≤ last → ¬ EndsPauseAt s log number n
  -- behind these comes the next message, or its pause ends, or the log does; and no message comes before that stands for one of it
  pub until : ℕ
  pub from_last : last ≤ until
  pub comes : (length log ≤ until) ⊎ (IsMessageAt s log until n ⊎ EndsPauseAt s log until n)
  pub none_stands : (number : ℕ) (l : FrameLine s log number) → first < number → number ≤ until → ¬ StandsForMessage l n
  -- nor does one of its messages stand there again
  pub none_again : (number : ℕ) → first < number → number ≤ until → ¬ IsAgainOf s log number n

-- each such flow of a log is accused of it: by the bus, or by load alone
abbrev pub SilentAreFound : Type 0
SilentAreFound = (s : Settings) (log text : List ℕ) (verdict : Verdict) → IsAuditedLog s log text verdict
    → (t : Timing) → s.plan.timing ≡ Some t → (us : ℕ) (clock : ℕ → ℕ) (bus : Schedule) (frame : ℕ → ℕ) → KeepsTime us clock
    → AreFramesOnBus s (lines log) bus clock frame → (n : ℕ) → IsLongSilent s t (lines log) us bus frame n
    → (verdict ≡ Findings)
    × ((m : Mark) × (stated : Occurrences) × ((m ≡ mark_at SilentFlow n 0) ⊎ (m ≡ mark_at SilentOrLate n 0)) × IsWrittenIn s.plan text m stated)
