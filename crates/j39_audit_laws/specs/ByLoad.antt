-- What a log reports by load of a bus that keeps to its plan.
use Rattle.std.specs.Prelude.{◌≡◌, ℕ, ◌*◌, ◌<◌, ◌≤◌, Bool, true, false, List, Option, Some}
use Rattle.j39_network.specs.declared.plan.Plan.{Plan}
use Rattle.j39_network.specs.declared.plan.timing.Timing.{Timing}
use Rattle.j39_timing.specs.AnyOrder.{Controllers, IsLegalInAnyOrder}
use Rattle.j39_timing.specs.Messages.{frame_end}
use Rattle.j39_timing.specs.TimedFrames.{Schedule, IsLegal}
use Rattle.j39_load.specs.Clocks.{IsTrueTime, bit_time}
use Rattle.j39_load.specs.KeepsPlan.{IsSingleFlow, KeepsAllOrder, KeepsQueues, KeepsToPlan}
use Rattle.j39_load.specs.KeptTimes.{IsReportedBound}
use Rattle.j39_load.specs.Loads.{us_of_bits}
use Rattle.j39_load.specs.SentFrames.{FrameSources, HasPeriodMs, Held, Single}
use Rattle.j39_load.specs.ValuesInTime.{KeepsPause}
use Rattle.j39_load.specs.declared.waits.delay.Delay.{Delay}
use Rattle.j39_audit.specs.UnitTimes.{longest_us, shortest_us}
use Rattle.j39_audit.specs.Near.{is_too_near}
use Rattle.j39_audit.specs.Responses.{us_at_logger}
use Rattle.j39_audit.specs.Silence.{is_silent}
use Rattle.j39_audit.specs.declared.window.Window.{Window}
use Rattle.j39_audit_laws.specs.LogBounds.{AreOfLoad, IsEndBound, Lines}
use Rattle.j39_audit_laws.specs.MarkRecords.{KeepsTime}
use Rattle.j39_audit_laws.specs.StreamRecords.{AreAllBefore, AreLines}

-- these are messages of the flow at a place, each of which goes in one frame
abbrev pub AreOfFlow : (ℕ → Bool) → FrameSources → ℕ → (ℕ → Bool) → Type 0
AreOfFlow planned sent f is_message = (p : ℕ) → is_message p ≡ true → (planned p ≡ true) × (sent.source p ≡ Single f)

-- by the response time that is reported of it no flow is reported as too near, whatever lines of its messages a log has
abbrev pub IsNoneNear : Plan → Timing → List (Option Delay) → Schedule → (ℕ → Bool) → FrameSources → Type 0
IsNoneNear plan timing delays s planned sent = (f bits ms n : ℕ) (is_message : ℕ → Bool) (frame : ℕ → ℕ) (log : Lines) (windows : ℕ → Window)
    → IsReportedBound delays f bits → HasPeriodMs plan f ms → AreOfFlow planned sent f is_message
    → log.us ≡ bit_time timing.bitrate → KeepsTime log.us log.clock
    → AreLines s is_message n frame → AreOfLoad s log (us_at_logger (us_of_bits timing bits)) n frame windows
    → (j : ℕ) → j < n → is_too_near (shortest_us timing ms) windows j ≡ false

-- these are all its messages
abbrev pub AreAllOfFlow : (ℕ → Bool) → FrameSources → ℕ → (ℕ → Bool) → Type 0
AreAllOfFlow planned sent f is_message = AreOfFlow planned sent f is_message
    × ((p : ℕ) → planned p ≡ true → sent.source p ≡ Single f → is_message p ≡ true)

-- nor is one reported as silent while it keeps its pause, where a log has all its messages behind its first line up to the place, be this of a message or of
-- a frame at which another one should have come
abbrev pub IsNoneSilent : Plan → Timing → List (Option Delay) → Schedule → (ℕ → Bool) → FrameSources → Type 0
IsNoneSilent plan timing delays s planned sent = (f bits pause from to n : ℕ) (is_message : ℕ → Bool) (frame : ℕ → ℕ) (log : Lines)
    (windows : ℕ → Window) (time : ℕ → ℕ) → IsReportedBound delays f bits → IsSingleFlow plan f → AreAllOfFlow planned sent f is_message
    → log.us ≡ bit_time timing.bitrate → KeepsTime log.us log.clock → IsTrueTime timing time
    → KeepsPause plan timing time s planned sent f pause from to → from ≤ to
    → AreLines s is_message n frame → AreOfLoad s log (us_at_logger (us_of_bits timing bits)) n frame windows → from ≤ frame_end s (frame 0)
    → (j : ℕ) → j ≤ n → (lower : Option ℕ) → (of : ℕ) → AreAllBefore s is_message frame j of
    → ((x : ℕ) → lower ≡ Some x → IsEndBound s log (us_at_logger (us_of_bits timing bits)) of x × (1000 * x ≤ log.clock to))
    → is_silent (longest_us timing pause) windows j lower ≡ false

-- so it is on every bus that keeps to the plan, where all units keep order, and where they do or don't
pub record IsNoneNearByLoad (plan : Plan) (timing : Timing) (delays : List (Option Delay)) : Type 0 where
  pub in_order : KeepsAllOrder plan → (s : Schedule) (planned : ℕ → Bool) (sent : FrameSources) (held : Held) → IsLegal s
      → KeepsToPlan plan timing s planned sent held → IsNoneNear plan timing delays s planned sent
  pub in_any_order : (s : Schedule) (controllers : Controllers) (planned : ℕ → Bool) (sent : FrameSources) (held : Held) → IsLegalInAnyOrder s controllers
      → KeepsToPlan plan timing s planned sent held → KeepsQueues plan timing s controllers planned sent → IsNoneNear plan timing delays s planned sent

pub record IsNoneSilentByLoad (plan : Plan) (timing : Timing) (delays : List (Option Delay)) : Type 0 where
  pub in_order : KeepsAllOrder plan → (s : Schedule) (planned : ℕ → Bool) (sent : FrameSources) (held : Held) → IsLegal s
      → KeepsToPlan plan timing s planned sent held → IsNoneSilent plan timing delays s planned sent
  pub in_any_order : (s : Schedule) (controllers : Controllers) (planned : ℕ → Bool) (sent : FrameSources) (held : Held) → IsLegalInAnyOrder s controllers
      → KeepsToPlan plan timing s planned sent held → KeepsQueues plan timing s controllers planned sent → IsNoneSilent plan timing delays s planned sent
