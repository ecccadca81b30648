-- The bounds of a stream's moments by the lines of a log: each line's own time, and idle marks at it or before it, or how long messages take.
use Rattle.std.specs.Prelude.{◌≡◌, ℕ, ◌+◌, ◌-◌, ◌*◌, ◌<◌, ◌≤◌, Some}
use Rattle.j39_audit.specs.declared.window.Window.{Window}
use Rattle.j39_audit_laws.specs.MarkRecords.{IsTimeOf, ShowsIdle, longest_reach}
use Rattle.j39_timing.specs.Messages.{frame_end}
use Rattle.j39_timing.specs.TimedFrames.{Schedule}

-- a bus and its log: the microseconds of a bit, how many attempts may be damaged at once, and by how much a line's time may differ
pub record Lines : Type 0 where
  pub us : ℕ
  pub few : ℕ
  pub within : ℕ
  pub clock : ℕ → ℕ

-- a lower bound by an idle mark that two lines show, of which the second one is of a frame that ends by the end of this one
pub record IsMarkedBound (s : Schedule) (log : Lines) (jitter of bound : ℕ) : Type 0 where
  pub bytes : ℕ
  pub one : ℕ
  pub next : ℕ
  pub before : ℕ
  pub time : ℕ
  pub shows : ShowsIdle s log.us log.few log.within bytes log.clock one next before time
  pub by : frame_end s next ≤ frame_end s of
  pub is : bound ≡ (time - (longest_reach log.us bytes log.few + log.within)) - 1001 * jitter

-- the upper bound is the line's time, and as much as it may differ
pub record IsTimedBound (s : Schedule) (log : Lines) (of bound : ℕ) : Type 0 where
  pub time : ℕ
  pub at : IsTimeOf log.clock log.within time (frame_end s of)
  pub is : bound ≡ time + log.within

pub record AreOfLog (s : Schedule) (log : Lines) (jitter n : ℕ) (frame : ℕ → ℕ) (windows : ℕ → Window) : Type 0 where
  pub upper : (k : ℕ) → k < n → IsTimedBound s log (frame k) (windows k).upper
  pub lower : (k x : ℕ) → k < n → (windows k).lower ≡ Some x → IsMarkedBound s log jitter (frame k) x

-- a lower bound by load: a message that ended at this line's time or later, so many microseconds behind its moment at most
pub record IsEndBound (s : Schedule) (log : Lines) (slack of bound : ℕ) : Type 0 where
  pub ended : frame_end s of ≤ s.now
  pub time : ℕ
  pub at : IsTimeOf log.clock log.within time (frame_end s of)
  pub is : bound ≡ time - log.within - slack

pub record AreOfLoad (s : Schedule) (log : Lines) (slack n : ℕ) (frame : ℕ → ℕ) (windows : ℕ → Window) : Type 0 where
  pub upper : (k : ℕ) → k < n → IsTimedBound s log (frame k) (windows k).upper
  pub lower : (k x : ℕ) → k < n → (windows k).lower ≡ Some x → IsEndBound s log slack (frame k) x
