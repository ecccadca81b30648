-- What a whole log of a bus that keeps to its plan isn't accused of.
use Rattle.std.specs.Prelude.{◌≡◌, ℕ, Bool, List, [], Option}
use Rattle.j39_id.specs.Lines.{Line}
use Rattle.j39_network.specs.declared.plan.timing.Timing.{Timing}
use Rattle.j39_timing.specs.AnyOrder.{Controllers, IsLegalInAnyOrder}
use Rattle.j39_timing.specs.TimedFrames.{IsLegal, Schedule}
use Rattle.j39_load.specs.Clocks.{bit_time}
use Rattle.j39_load.specs.KeepsPlan.{IsSingleFlow, KeepsAllOrder, KeepsQueues, KeepsToPlan}
use Rattle.j39_load.specs.KeptTimes.{IsReportedBound}
use Rattle.j39_load.specs.SentFrames.{FrameSources, HasPeriodMs, Held}
use Rattle.j39_load.specs.declared.waits.delay.Delay.{Delay}
use Rattle.j39_audit.specs.AuditPasts.{AuditPast, AuditsLines, log_ended, nothing_read}
use Rattle.j39_audit.specs.AuditText.{look_at, subject_lines}
use Rattle.j39_audit.specs.Settings.{Settings}
use Rattle.j39_audit.specs.declared.mark.Word.TheVariants.{NearFlow}
use Rattle.j39_audit_laws.specs.ByLoad.{AreOfFlow}
use Rattle.j39_audit_laws.specs.KeptLogs.{AreSeenAs, IsLogOfBus, IsWholeLog}
use Rattle.j39_audit_laws.specs.MarkRecords.{KeepsTime}

-- no line `near` or `near_or_late` is written of a flow each message of which goes in one frame, and of which a response time is reported
abbrev pub IsNearNowhere : Settings → Timing → List (Option Delay) → Schedule → (ℕ → Bool) → FrameSources → Type 0
IsNearNowhere s timing delays bus planned sent = (log : List Line) (clock place : ℕ → ℕ) (n bits ms : ℕ) (is_message : ℕ → Bool) (end : AuditPast)
    → KeepsTime (bit_time timing.bitrate) clock → IsLogOfBus s log bus clock place → IsWholeLog s log bus clock place → IsReportedBound delays n bits
    → IsSingleFlow s.plan n → HasPeriodMs s.plan n ms → AreOfFlow planned sent n is_message → AreSeenAs s log place n is_message
    → AuditsLines s nothing_read log end → subject_lines s (look_at (log_ended s end)) NearFlow n ≡ []

-- in each whole log of every bus without damage that keeps to the plan, where all units keep order, and where they do or don't
pub record AreWholeLogsNotNear (s : Settings) (timing : Timing) (delays : List (Option Delay)) : Type 0 where
  pub in_order : KeepsAllOrder s.plan → (bus : Schedule) (planned : ℕ → Bool) (sent : FrameSources) (held : Held) → IsLegal bus
      → KeepsToPlan s.plan timing bus planned sent held → IsNearNowhere s timing delays bus planned sent
  pub in_any_order : (bus : Schedule) (controllers : Controllers) (planned : ℕ → Bool) (sent : FrameSources) (held : Held)
      → IsLegalInAnyOrder bus controllers → KeepsToPlan s.plan timing bus planned sent held → KeepsQueues s.plan timing bus controllers planned sent
      → IsNearNowhere s timing delays bus planned sent
