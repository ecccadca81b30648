-- What a bus on which frames are damaged keeps of a plan, in the plan's own words, beside what its frames keep.
use Rattle.std.specs.Prelude.{◌≡◌, ℕ, suc, ◌+◌, ◌*◌, ◌%◌, ◌<◌, ◌≤◌, ◌&&◌, Bool, true, cond, nat_lt, not, Some}
use Rattle.std.specs.List.{slice_get}
use Rattle.j39_network.specs.declared.plan.Plan.{Plan}
use Rattle.j39_network.specs.declared.plan.queue.Queue.TheVariants.{Any}
use Rattle.j39_network.specs.declared.plan.timing.ErrorRate.{ErrorRate}
use Rattle.j39_network.specs.declared.plan.timing.Timing.{Timing}
use Rattle.j39_network.specs.declared.plan.unit_plan.UnitPlan.{UnitPlan}
use Rattle.j39_load.specs.Clocks.{bit_time, longest_million, million}
use Rattle.j39_load.specs.KeepsPlan.{AreSentInTime, KeepsAllOrder, KeepsQueues, KeepsToPlan, source_place, source_turn}
use Rattle.j39_load.specs.SentFrames.{FrameSources, HasTime, Held, TakesPart}
use Rattle.j39_timing.specs.AnyOrder.{Controllers}
use Rattle.j39_timing.specs.QueueGroups.{unplanned_queued}
use Rattle.j39_timing.specs.Errors.{Damaged, IsLegalInAnyOrderWithErrors, IsLegalWithErrors, at_place, with_errors}
use Rattle.j39_timing.specs.FrameStreams.{Origins}
use Rattle.j39_timing.specs.Sums.{total}
use Rattle.j39_timing.specs.TimedFrames.{Schedule, Waits}
use Rattle.j39_timing.specs.Traffic.{PlannedFramesWait, others_queued}

-- what comes of damage is foreseen too
abbrev pub planned_with : Schedule → (ℕ → Bool) → ℕ → Bool
planned_with s planned p = cond (nat_lt p s.count) (planned p) true

-- an attempt begins at a bit or in so many milliseconds of true time from it on
abbrev pub begins_within : Timing → ℕ → Damaged → ℕ → ℕ → Bool
begins_within timing ms d from e =
    not (nat_lt (d.begin e) from) && nat_lt (d.begin e * bit_time timing.bitrate * longest_million timing)
    (from * bit_time timing.bitrate * longest_million timing + 1000 * ms * million)

-- how many do
abbrev pub attempts_within : Timing → ℕ → Damaged → ℕ → ℕ
attempts_within timing ms d from = total d.count (λ e. cond (begins_within timing ms d from e) 1 0)

-- attempts are damaged as seldom as the plan reports, in the order of their places
pub record KeepsErrors (timing : Timing) (rate : ErrorRate) (s : Schedule) (d : Damaged) (planned : ℕ → Bool) (sent : FrameSources) : Type 0 where
  pub stated : timing.errors ≡ Some rate
  pub in_order : (e f : ℕ) → e ≤ f → f < d.count → d.begin e ≤ d.begin f
  -- at most `count` of them begin in any `every` milliseconds
  pub seldom : (from : ℕ) → attempts_within timing rate.every d from ≤ rate.count
  -- no more frames that aren't planned go before one of a flow with messages of one frame, or of a long message to all, also while it waits for what
  -- comes of damage
  pub few_others : (p from to : ℕ) → p < s.count → planned p ≡ true → HasTime (sent.source p) → to < s.now → Waits (with_errors s d) p to
      → PlannedFramesWait (with_errors s d) (planned_with s planned) ((with_errors s d).ident p) from to
      → others_queued (with_errors s d) (planned_with s planned) ((with_errors s d).ident p) from to ≤ timing.unplanned

-- what a frame, an attempt and an error frame is of its stream: the attempts stand behind so many streams, and take turns in a window
abbrev pub origins_with : Plan → Schedule → Damaged → ErrorRate → ℕ → FrameSources → Origins
origins_with plan s d rate count sent = record {
  source = at_place s d (λ p. source_place plan (sent.source p)) (λ e. count) (λ e. suc count);
  turn = at_place s d (λ p. source_turn plan (sent.source p)) (λ e. e % rate.count) (λ e. e % rate.count);
  since = at_place s d sent.release d.begin d.begin;
}

-- on each such bus whose units keep order each frame has been sent in time
abbrev pub AreInTimeWithErrors : Plan → Timing → Type 0
AreInTimeWithErrors plan timing = KeepsAllOrder plan → (s : Schedule) (d : Damaged) (planned : ℕ → Bool) (sent : FrameSources) (held : Held) (rate : ErrorRate)
    → IsLegalWithErrors s d → KeepsToPlan plan timing s planned sent held → KeepsErrors timing rate s d planned sent → AreSentInTime plan timing s planned sent

-- ---- units that keep no order

-- what is asked besides where units keep no order
pub record KeepsErrorsInAnyOrder (plan : Plan) (timing : Timing) (s : Schedule) (controllers : Controllers) (d : Damaged) (planned : ℕ → Bool)
    (sent : FrameSources) : Type 0 where
  -- what comes of damage is of a unit that keeps order
  pub own : ℕ
  pub in_order : controllers.keeps_order own ≡ true
  -- no more frames that aren't planned are queued than are reported while a frame of a message waits in which a unit without order takes part, also
  -- while it waits for what comes of damage
  pub few_unplanned : (p from to u : ℕ) (unit : UnitPlan) → p < s.count → planned p ≡ true
      → TakesPart plan (sent.source p) u → slice_get plan.units.items u ≡ Some unit → unit.queue ≡ Any
      → to < s.now → Waits (with_errors s d) p to
      → ((t : ℕ) → from < t → t ≤ to
      → (q : ℕ) × (q < (with_errors s d).count) × (planned_with s planned q ≡ true) × Waits (with_errors s d) q t)
      → unplanned_queued (with_errors s d) (planned_with s planned) from to ≤ timing.unplanned

-- on each such bus each frame has been sent in time, whether units keep order or not
abbrev pub AreInTimeWithErrorsInAnyOrder : Plan → Timing → Type 0
AreInTimeWithErrorsInAnyOrder plan timing = (s : Schedule) (controllers : Controllers) (d : Damaged) (planned : ℕ → Bool) (sent : FrameSources) (held : Held)
    (rate : ErrorRate) → IsLegalInAnyOrderWithErrors s controllers d → KeepsToPlan plan timing s planned sent held
    → KeepsQueues plan timing s controllers planned sent → KeepsErrors timing rate s d planned sent
    → KeepsErrorsInAnyOrder plan timing s controllers d planned sent → AreSentInTime plan timing s planned sent
