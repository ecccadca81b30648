-- Where a log breaks off, where a bit was idle, and which broadcasts count, in numbers and in the words of the plan.
use Rattle.std.specs.Prelude.{◌≡◌, ◌⊎◌, ◌↔◌, ◌<◌, ◌≤◌, ◌+◌, ◌*◌, ℕ, All, Any, List, ◌∷◌, Bool, false, Option, Some, None, true}
use Rattle.std.specs.List.{slice_get}
use Rattle.j39_network.specs.declared.plan.Plan.{Plan}
use Rattle.j39_network.specs.declared.plan.timing.ErrorRate.{ErrorRate}
use Rattle.j39_network.specs.declared.plan.flow_plan.FlowPlan.{FlowPlan}
use Rattle.j39_network.specs.declared.plan.pace.Pace.{Pace}
use Rattle.j39_network.specs.declared.plan.timing.Timing.{Timing}
use Rattle.j39_audit.specs.BegunBroadcasts.{begun_by}
use Rattle.j39_audit.specs.Breaks.{breaks, line_time, newest_behind}
use Rattle.j39_audit.specs.Claiming.{Knowledge}
use Rattle.j39_audit.specs.Moments.{bit_us, shows_idle}
use Rattle.j39_audit.specs.SentMessages.{SentMessage, is_fit}
use Rattle.j39_audit.specs.Settings.{Settings}
use Rattle.j39_audit.specs.declared.broadcasts.BegunBroadcast.{BegunBroadcast}

-- ---- breaks

-- the greatest of these times
pub record IsGreatest (times : List ℕ) (newest : ℕ) : Type 0 where
  pub among : Any (λ time. time ≡ newest) times
  pub greatest : All (λ time. time ≤ newest) times

-- a log breaks off just before a frame of this time exactly where that is more than a second behind the newest time, or lies before it by more
-- than twice the logger's error
abbrev pub BreaksAreByNumbers : Type 0
BreaksAreByNumbers = (stamps newest time : ℕ)
    → (breaks stamps (Some newest) (Some time) ≡ true) ↔ ((newest + 1000000 < time) ⊎ (time + 2 * stamps < newest))

-- the newest time is the greatest since times began, which a time does that lies before it by more than twice the error, or a frame without one
pub record KeepsTheGreatest (stamps newest time : ℕ) (times : List ℕ) : Type 0 where
  pub anew : time + 2 * stamps < newest → newest_behind stamps (Some newest) (Some time) ≡ Some time
  pub more : newest ≤ time + 2 * stamps → (greatest : ℕ) × (newest_behind stamps (Some newest) (Some time) ≡ Some greatest)
      × IsGreatest (time ∷ times) greatest

abbrev pub NewestIsGreatest : Type 0
NewestIsGreatest = (stamps newest time : ℕ) (times : List ℕ) → IsGreatest times newest → KeepsTheGreatest stamps newest time times

abbrev pub TimesBegin : Type 0
TimesBegin = (stamps : ℕ) (newest : Option ℕ) (time : ℕ)
    → (newest_behind stamps newest None ≡ None) × (newest_behind stamps None (Some time) ≡ Some time)

-- no line of a plan without `timing` has a time
abbrev pub TimesNeedTiming : Type 0
TimesNeedTiming = (plan : Plan) (text : List ℕ) → plan.timing ≡ None → line_time plan text ≡ None

-- ---- idle bits

-- none is seen where damage may fill each bit: `count` damaged frames of 192 bits and one more take longer than `every` milliseconds
abbrev pub DamageMayFillAll : Type 0
DamageMayFillAll = (s : Settings) (t : Timing) (e : ErrorRate) (gap : Bool) (bytes time : ℕ) (before : Option ℕ) → t.errors ≡ Some e
    → 1000 * e.every * 1000000 < bit_us t.bitrate * (192 * (e.count + 1)) * (1000000 + t.drift) → shows_idle s t gap bytes time before ≡ false

-- ---- broadcasts

-- a broadcast whose packets are judged is announced by a message that some flow may bring, and each flow that may has a period
pub record IsPacedByThePlan (s : Settings) (k : Knowledge) (m : SentMessage) : Type 0 where
  pub some : (n : ℕ) × (flow : FlowPlan) × (slice_get s.plan.flows.items n ≡ Some flow) × (is_fit s k m flow ≡ true)
  pub each : (n : ℕ) (flow : FlowPlan) → slice_get s.plan.flows.items n ≡ Some flow → is_fit s k m flow ≡ true → (pace : Pace) × (flow.pace ≡ Some pace)

abbrev pub BroadcastsArePlanned : Type 0
BroadcastsArePlanned = (s : Settings) (k : Knowledge) (m : SentMessage) (moment line : ℕ) (one : BegunBroadcast)
    → begun_by s k m moment line ≡ Some one → IsPacedByThePlan s k m
