-- What a whole log reports of a bus that keeps to its plan, by load.
use Rattle.std.specs.Prelude.{◌≡◌, ◌≢◌, ◌⊎◌, ℕ, ◌+◌, ◌*◌, ◌<◌, ◌≤◌, Bool, true, List, length, Option, Some, false}
use Rattle.std.specs.List.{slice_get}
use Rattle.std.specs.Option.{option_map_or}
use Rattle.j39_id.specs.Lines.{Line}
use Rattle.j39_network.specs.declared.plan.Plan.{Plan}
use Rattle.j39_network.specs.declared.plan.group_plan.GroupPlan.{GroupPlan}
use Rattle.j39_network.specs.declared.plan.timing.ErrorRate.{ErrorRate}
use Rattle.j39_network.specs.declared.plan.timing.Timing.{Timing}
use Rattle.j39_timing.specs.AnyOrder.{Controllers, IsLegalInAnyOrder}
use Rattle.j39_timing.specs.Errors.{Damaged, IsBusWithErrors}
use Rattle.j39_timing.specs.Messages.{frame_end}
use Rattle.j39_timing.specs.TimedFrames.{IsLegal, Schedule}
use Rattle.j39_load.specs.BusTimes.{timing_of}
use Rattle.j39_load.specs.Clocks.{bit_time}
use Rattle.j39_load.specs.KeepsPlan.{KeepsAllOrder, KeepsQueues, KeepsToPlan}
use Rattle.j39_load.specs.KeptTimes.{IsReportedBound}
use Rattle.j39_load.specs.SentFrames.{FrameSources, HasPeriodMs, Held, IsMsBehind, IsSessionFrame, IsSingleFrame, RequestToSend}
use Rattle.j39_load.specs.declared.waits.delay.Delay.{Delay}
use Rattle.j39_audit.specs.AuditPasts.{AuditPast, AuditsLines, log_ended, nothing_read}
use Rattle.j39_audit.specs.AuditText.{look_at, mark_at}
use Rattle.j39_audit.specs.Breaks.{line_time}
use Rattle.j39_audit.specs.Settings.{Settings, logger_error}
use Rattle.j39_audit.specs.declared.by_load.Bound.TheVariants.{Bus}
use Rattle.j39_audit.specs.declared.mark.Word.TheVariants.{NearFlow, NearOrLate}
use Rattle.j39_audit_laws.specs.ByLoad.{AreOfFlow}
use Rattle.j39_audit_laws.specs.MarkRecords.{AreFew, IsNextTo, IsTimeOf, KeepsTime}
use Rattle.j39_audit_laws.specs.PauseLines.{FrameLine, IsAgainAt, IsPassedOver, IsSeenOf, time_there}

-- each frame that is read of a log is one that has ended on a bus, in the order of their ends, and its time is that of its end, within the logger's error;
-- frames of the bus may be missing
pub record IsLogOfBus (s : Settings) (log : List Line) (bus : Schedule) (clock : ℕ → ℕ) (place : ℕ → ℕ) : Type 0 where
  pub known : (number : ℕ) → FrameLine s log number → place number < bus.count
  pub ended : (number : ℕ) → FrameLine s log number → frame_end bus (place number) ≤ bus.now
  pub in_turn : (a b : ℕ) → FrameLine s log a → FrameLine s log b → a < b → frame_end bus (place a) < frame_end bus (place b)
  pub times : (number time : ℕ) (l : FrameLine s log number) → time_there l ≡ Some time
      → IsTimeOf clock (logger_error s) time (frame_end bus (place number))

-- each that is seen of a flow is one of its messages
abbrev pub AreSeenAs : (s : Settings) → List Line → (ℕ → ℕ) → ℕ → (ℕ → Bool) → Type 0
AreSeenAs s log place n is_message = (number : ℕ) (l : FrameLine s log number) → IsSeenOf l n → is_message (place number) ≡ true

-- so in no log of the bus a flow of which a response time is reported, each message of which goes in one frame, is reported by load as too near
abbrev pub IsNoneNearInLogs : Settings → Timing → List (Option Delay) → Schedule → (ℕ → Bool) → FrameSources → Type 0
IsNoneNearInLogs s timing delays bus planned sent = (log : List Line) (clock place : ℕ → ℕ) (n bits ms : ℕ) (is_message : ℕ → Bool) (end : AuditPast)
    → KeepsTime (bit_time timing.bitrate) clock → IsLogOfBus s log bus clock place → IsReportedBound delays n bits → HasPeriodMs s.plan n ms
    → AreOfFlow planned sent n is_message → AreSeenAs s log place n is_message → AuditsLines s nothing_read log end
    → (look_at (log_ended s end) (mark_at NearOrLate n 0)).times ≡ 0

-- on every bus that keeps to the plan, where all units keep order, and where they do or don't
pub record AreLogsNotNear (s : Settings) (timing : Timing) (delays : List (Option Delay)) : Type 0 where
  pub in_order : KeepsAllOrder s.plan → (bus : Schedule) (planned : ℕ → Bool) (sent : FrameSources) (held : Held) → IsLegal bus
      → KeepsToPlan s.plan timing bus planned sent held → IsNoneNearInLogs s timing delays bus planned sent
  pub in_any_order : (bus : Schedule) (controllers : Controllers) (planned : ℕ → Bool) (sent : FrameSources) (held : Held)
      → IsLegalInAnyOrder bus controllers → KeepsToPlan s.plan timing bus planned sent held → KeepsQueues s.plan timing bus controllers planned sent
      → IsNoneNearInLogs s timing delays bus planned sent

-- ---- by the bus

-- a line of this time shows a frame of the bus: it is read as one; or as one that stands there again, and doesn't repeat the frame before, so that the bus
-- carried two
abbrev pub ShowsFrameAt : Settings → List Line → (ℕ → Bool) → ℕ → ℕ → Type 0
ShowsFrameAt s log repeats number time =
    ((l : FrameLine s log number) × (time_there l ≡ Some time))
    ⊎ ((l : IsAgainAt s log number) × (repeats number ≡ false) × (line_time s.plan l.time ≡ Some time))

-- it shows none: it is passed over, or repeats the frame before
abbrev pub ShowsNone : Settings → List Line → (ℕ → Bool) → ℕ → Type 0
ShowsNone s log repeats number = IsPassedOver s log number ⊎ (IsAgainAt s log number × (repeats number ≡ true))

abbrev pub ShowNone : Settings → List Line → (ℕ → Bool) → ℕ → ℕ → Type 0
ShowNone s log repeats a c = (k : ℕ) → a < k → k < c → ShowsNone s log repeats k

-- nothing that the bus carried is missing between two frames with nothing but lines between them that show none; and a frame has eight bytes at
-- most, and takes as many bits as these may need. What stands there again may repeat the frame before, no earlier than this, or be one more of the bus
pub record IsWholeLog (s : Settings) (log : List Line) (bus : Schedule) (clock : ℕ → ℕ) (place : ℕ → ℕ) : Type 0 where
  pub repeats : ℕ → Bool
  pub next : (a c time : ℕ) → ShowsFrameAt s log repeats a time → FrameLine s log c → a < c → ShowNone s log repeats a c → IsNextTo bus (place a) (place c)
  pub more : (number time : ℕ) (l : IsAgainAt s log number) → repeats number ≡ false → line_time s.plan l.time ≡ Some time
      → IsTimeOf clock (logger_error s) time (frame_end bus (place number))
  pub repeated : (a number time later : ℕ) (l : IsAgainAt s log number) → ShowsFrameAt s log repeats a time → a < number
      → ShowNone s log repeats a number → repeats number ≡ true → line_time s.plan l.time ≡ Some later → time ≤ later
  pub bytes : (number : ℕ) (l : FrameLine s log number) → length l.f.payload.items ≤ 8
  pub bits : (number : ℕ) (l : FrameLine s log number) → bus.bits (place number) ≤ 80 + 10 * length l.f.payload.items

-- the frame is a message of a flow of this group that has none but those of one frame, or the request to send of a long one to one unit, where it has
-- none but long ones
abbrev pub IsMessageFrame : Plan → Timing → Schedule → Held → ℕ → GroupPlan → ℕ → ℕ → Type 0
IsMessageFrame plan timing bus held n group release p = ((group.most ≤ 8) × IsSingleFrame plan timing bus held n release p)
    ⊎ ((8 < group.most) × IsSessionFrame plan timing bus held n RequestToSend release p)

-- these are messages of a flow, by their first frames, and their releases are a period apart; what else the bus carries isn't asked
pub record KeepsItsPeriod (plan : Plan) (timing : Timing) (bus : Schedule) (held : Held) (n ms : ℕ) (release : ℕ → ℕ) (is_message : ℕ → Bool) : Type 0 where
  pub period : HasPeriodMs plan n ms
  pub group : GroupPlan
  pub group_is : slice_get plan.groups.items period.flow.group ≡ Some group
  pub frames : (p : ℕ) → p < bus.count → is_message p ≡ true → IsMessageFrame plan timing bus held n group (release p) p
  pub apart : (p q : ℕ) → p < bus.count → q < bus.count → p ≢ q → is_message p ≡ true → is_message q ≡ true
      → IsMsBehind timing ms (release p) (release q) ⊎ IsMsBehind timing ms (release q) (release p)

-- whatever others do, on a bus with no more damage than the plan reports, in a whole log no such flow is reported as too near
abbrev pub PeriodsAreNotNear : Type 0
PeriodsAreNotNear = (s : Settings) (log : List Line) (timing : Timing) (bus : Schedule) (damaged : Damaged) (held : Held) (release clock place : ℕ → ℕ) (n ms : ℕ)
    (is_message : ℕ → Bool) (end : AuditPast) → timing_of s.plan ≡ Some timing → s.bound ≡ Bus → timing.drift ≡ 0
    → KeepsTime (bit_time timing.bitrate) clock → IsBusWithErrors bus damaged → ((p : ℕ) → p < bus.count → bus.bits p ≤ 160)
    → AreFew damaged (option_map_or (λ (e : ErrorRate). e.count) timing.errors 0) → KeepsItsPeriod s.plan timing bus held n ms release is_message
    → IsLogOfBus s log bus clock place → IsWholeLog s log bus clock place → AreSeenAs s log place n is_message → AuditsLines s nothing_read log end
    → (look_at (log_ended s end) (mark_at NearFlow n 0)).times ≡ 0
