-- Who keeps a stream's times is not reported of it: by the idle bits that a log shows, and by how long messages take, whatever others do.
use Rattle.std.specs.Prelude.{◌≡◌, ℕ, ◌*◌, ◌<◌, ◌≤◌, Bool, false, Option, Some}
use Rattle.j39_timing.specs.Errors.{Damaged, IsBusWithErrors}
use Rattle.j39_timing.specs.Messages.{frame_end}
use Rattle.j39_timing.specs.TimedFrames.{Schedule}
use Rattle.j39_audit.specs.Near.{is_too_near}
use Rattle.j39_audit.specs.Responses.{us_at_logger}
use Rattle.j39_audit.specs.Silence.{is_silent}
use Rattle.j39_audit.specs.declared.window.Window.{Window}
use Rattle.j39_audit_laws.specs.LogBounds.{AreOfLoad, AreOfLog, IsEndBound, IsMarkedBound, Lines}
use Rattle.j39_audit_laws.specs.MarkRecords.{AreFew, KeepsTime}
use Rattle.j39_audit_laws.specs.StreamRecords.{AreAllBefore, AreLines, AreMessagesInTime, AreMsApart, AreReleasedFirst, HaveJitter, IsOneAtATime, KeepsMs}

-- ---- by the idle bits that a log shows

-- who keeps its period and its jitter is not reported as too near
abbrev pub StreamsAreNotNear : Type 0
StreamsAreNotNear = (s : Schedule) (d : Damaged) (log : Lines) (period jitter n : ℕ) (is_message : ℕ → Bool) (release frame : ℕ → ℕ)
    (windows : ℕ → Window)
    → log.us ≤ 8 → KeepsTime log.us log.clock
    → IsBusWithErrors s d → ((p : ℕ) → p < s.count → s.bits p ≤ 160) → AreFew d log.few
    → AreReleasedFirst s is_message release → HaveJitter s log.us jitter is_message release
    → AreMsApart s log.us period is_message release
    → AreLines s is_message n frame → AreOfLog s log jitter n frame windows
    → (j : ℕ) → j < n → is_too_near (999 * period) windows j ≡ false

-- nor as silent who keeps its pause and its jitter
abbrev pub StreamsAreNotSilent : Type 0
StreamsAreNotSilent = (s : Schedule) (d : Damaged) (log : Lines) (bits_of_ms pause jitter from to n : ℕ) (is_message : ℕ → Bool)
    (release frame : ℕ → ℕ) (windows : ℕ → Window)
    → log.us ≤ 8 → log.us * bits_of_ms ≡ 1000 → KeepsTime log.us log.clock
    → IsBusWithErrors s d → ((p : ℕ) → p < s.count → s.bits p ≤ 160) → AreFew d log.few
    → AreReleasedFirst s is_message release → HaveJitter s log.us jitter is_message release
    → KeepsMs s log.us pause is_message release from to → from ≤ to
    → AreLines s is_message n frame → AreOfLog s log jitter n frame windows → from ≤ frame_end s (frame 0)
    → (j : ℕ) → j ≤ n → (lower : Option ℕ) → (of : ℕ) → AreAllBefore s is_message frame j of
    → ((x : ℕ) → lower ≡ Some x → IsMarkedBound s log jitter of x × (1000 * x ≤ log.clock to))
    → is_silent (1001 * pause) windows j lower ≡ false

-- ---- by load

-- whose messages have been sent within the response time, and who keeps its period, is not reported as too near
abbrev pub SentInTimeAreNotNear : Type 0
SentInTimeAreNotNear = (s : Schedule) (log : Lines) (period bits n : ℕ) (is_message : ℕ → Bool) (release frame : ℕ → ℕ) (windows : ℕ → Window)
    → KeepsTime log.us log.clock → IsOneAtATime s → AreReleasedFirst s is_message release → AreMessagesInTime s bits is_message release
    → AreMsApart s log.us period is_message release → AreLines s is_message n frame
    → AreOfLoad s log (us_at_logger (bits * log.us)) n frame windows
    → (j : ℕ) → j < n → is_too_near (999 * period) windows j ≡ false

-- nor as silent who keeps its pause
abbrev pub SentInTimeAreNotSilent : Type 0
SentInTimeAreNotSilent = (s : Schedule) (log : Lines) (bits_of_ms pause bits from to n : ℕ) (is_message : ℕ → Bool) (release frame : ℕ → ℕ)
    (windows : ℕ → Window) → log.us * bits_of_ms ≡ 1000 → KeepsTime log.us log.clock → IsOneAtATime s → AreReleasedFirst s is_message release
    → AreMessagesInTime s bits is_message release → KeepsMs s log.us pause is_message release from to → from ≤ to
    → AreLines s is_message n frame → AreOfLoad s log (us_at_logger (bits * log.us)) n frame windows → from ≤ frame_end s (frame 0)
    → (j : ℕ) → j ≤ n → (lower : Option ℕ) → (of : ℕ) → AreAllBefore s is_message frame j of
    → ((x : ℕ) → lower ≡ Some x → IsEndBound s log (us_at_logger (bits * log.us)) of x × (1000 * x ≤ log.clock to))
    → is_silent (1001 * pause) windows j lower ≡ false
