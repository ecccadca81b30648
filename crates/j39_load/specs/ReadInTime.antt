-- A value arrives in time: on every bus, while a flow that brings a unit what it needs keeps its `pause`, what was received last of it is never
-- older than the need asks for, and each signal in its bytes reads there what was last written to it. How long frames wait and how signals
-- read back, put together.
use Rattle.std.specs.Prelude.{◌≡◌, ℕ, ◌+◌, ◌*◌, ◌<◌, ◌≤◌, ℤ, Bool, List, ◌∷◌, ◌++◌, length as count, Option, Some, None}
use Rattle.std.specs.List.{HoldsAt, slice_get}
use Rattle.j39_signal.specs.Bits.{all_ones, raw_of}
use Rattle.j39_signal.specs.Laid.{Chain, Write, last_payload}
use Rattle.j39_signal.specs.declared.signal_parts.SignalParts.{SignalParts}
use Rattle.j39_signal.specs.State.{IsRawOf, state_of}
use Rattle.j39_signal.specs.declared.state.State.TheVariants.{Value}
use Rattle.j39_network.specs.Records.{signals_in}
use Rattle.j39_network.specs.SoundSignals.{IsBlankOf, LeaveAlone, unset_state}
use Rattle.j39_network.specs.declared.plan.Plan.{Plan}
use Rattle.j39_network.specs.declared.plan.group_plan.GroupPlan.{GroupPlan}
use Rattle.j39_network.specs.declared.plan.need_plan.NeedPlan.{NeedPlan}
use Rattle.j39_network.specs.declared.plan.timing.Timing.{Timing}
use Rattle.j39_network.specs.declared.plan.unit_plan.UnitPlan.{UnitPlan}
use Rattle.j39_load.specs.declared.waits.delay.Delay.{Delay}
use Rattle.j39_load.specs.Asked.{Asked, asked_of, frames_asked}
use Rattle.j39_load.specs.FreshNeeds.{IsNeedFresh}
use Rattle.j39_load.specs.LoadFindings.{AsksOfBus}
use Rattle.j39_load.specs.PlannedFrames.{AreAllOrdered, AreFramesInAnyOrder, AreFramesOfPlan}
use Rattle.j39_timing.specs.AnyOrder.{Controllers, IsLegalInAnyOrder}
use Rattle.j39_timing.specs.FrameStreams.{Origins}
use Rattle.j39_timing.specs.FreshFrames.{IsNewest, KeepsComing}
use Rattle.j39_timing.specs.Messages.{IsOf}
use Rattle.j39_timing.specs.TimedFrames.{Schedule, IsLegal}
use Rattle.j39_timing.specs.declared.stream.Stream.{Stream}

-- ---- bytes

-- bytes that were written signal after signal, from a blank payload of the group on, of one of its lengths
pub record AreWritten (group : GroupPlan) (bytes : List ℕ) : Type 0 where
  pub start : List ℕ
  pub blank : IsBlankOf group start
  pub writes : List Write
  pub chain : Chain (signals_in group (count start)) start writes
  pub last : last_payload start writes ≡ bytes

-- the signals that they have
abbrev pub signals_of_bytes : GroupPlan → List ℕ → List SignalParts
signals_of_bytes group bytes = signals_in group (count bytes)

-- a signal whose last write gave a value reads that value in these bytes, one whose last write gave it up reads as unset, and one that no
-- write was for reads what it has in the blank payload, which without a selector is that it is unset
pub record ReadAsWritten (group : GroupPlan) (bytes : List ℕ) (w : AreWritten group bytes) : Type 0 where
  pub given : (earlier later : List Write) (x : Write) → w.writes ≡ earlier ++ x ∷ later → LeaveAlone later x.place → (value : ℤ)
      → HoldsAt (λ s. IsRawOf s value x.raw → state_of s (raw_of bytes s) ≡ Value value) (signals_of_bytes group bytes) x.place
  pub given_up : (earlier later : List Write) (x : Write) → w.writes ≡ earlier ++ x ∷ later → LeaveAlone later x.place
      → HoldsAt (λ s. x.raw ≡ all_ones s → state_of s (raw_of bytes s) ≡ unset_state s) (signals_of_bytes group bytes) x.place
  pub never_given : (place : ℕ) → place < count (signals_of_bytes group bytes) → LeaveAlone w.writes place
      → HoldsAt (λ s. state_of s (raw_of bytes s) ≡ state_of s (raw_of w.start s)) (signals_of_bytes group bytes) place
  pub unset : group.when ≡ None → (place : ℕ) → place < count (signals_of_bytes group bytes) → LeaveAlone w.writes place
      → HoldsAt (λ s. state_of s (raw_of bytes s) ≡ unset_state s) (signals_of_bytes group bytes) place

-- ---- frames

-- a frame carries bytes, by its place: those of a flow's frames were written so
abbrev pub CarryWritten : Schedule → (ℕ → Bool) → Origins → ℕ → GroupPlan → (ℕ → List ℕ) → Type 0
CarryWritten s planned of flow group bytes = (p : ℕ) → IsOf s planned of flow p → AreWritten group (bytes p)

-- the frame's release was less than `age` bits ago, and its bytes read as they were written
pub record ReadsYoung (s : Schedule) (planned : ℕ → Bool) (of : Origins) (flow : ℕ) (group : GroupPlan) (bytes : ℕ → List ℕ)
    (written : CarryWritten s planned of flow group bytes) (age t p : ℕ) (its : IsOf s planned of flow p) : Type 0 where
  pub young : t < of.since p + age
  pub read : ReadAsWritten group (bytes p) (written p its)

-- so it is from one bit to another of the newest frame of the flow that has ended, and there is one
abbrev pub AreReadYoung : (s : Schedule) (planned : ℕ → Bool) (of : Origins) (flow : ℕ) (group : GroupPlan) (bytes : ℕ → List ℕ)
    → CarryWritten s planned of flow group bytes → ℕ → ℕ → ℕ → Type 0
AreReadYoung s planned of flow group bytes written age from to = (t : ℕ) → from ≤ t → t ≤ to
    → ((p : ℕ) × IsNewest s planned of flow t p)
    × ((p : ℕ) → (newest : IsNewest s planned of flow t p) → ReadsYoung s planned of flow group bytes written age t p newest.has_ended.its)

-- in every legal schedule of such frames, whose bytes were written so, and in which one of the flow has had its release in the last `pause` bits
abbrev pub AreReadOnEveryBus : Timing → Asked → ℕ → GroupPlan → ℕ → Stream → ℕ → ℕ → Type 0
AreReadOnEveryBus timing asked flow group pause stream wait delay = (s : Schedule) (planned : ℕ → Bool) (of : Origins) → IsLegal s
    → AreFramesOfPlan timing (frames_asked asked) s planned of flow
    → (bytes : ℕ → List ℕ) (written : CarryWritten s planned of flow group bytes) (from to : ℕ) → KeepsComing s planned of flow pause from to
    → to + (stream.jitter + wait) < s.now
    → AreReadYoung s planned of flow group bytes written (pause + delay) (from + delay) (to + delay)

-- the same where units keep order or don't
abbrev pub AreReadInAnyOrder : Timing → Asked → ℕ → GroupPlan → ℕ → Stream → ℕ → ℕ → Type 0
AreReadInAnyOrder timing asked flow group pause stream wait delay = (s : Schedule) (controllers : Controllers) (planned : ℕ → Bool) (of : Origins)
    → IsLegalInAnyOrder s controllers → AreFramesInAnyOrder timing asked.unplanned_end (frames_asked asked) s controllers planned of flow
    → (bytes : ℕ → List ℕ) (written : CarryWritten s planned of flow group bytes) (from to : ℕ) → KeepsComing s planned of flow pause from to
    → to + (stream.jitter + wait) < s.now
    → AreReadYoung s planned of flow group bytes written (pause + delay) (from + delay) (to + delay)

-- ---- needs

-- the need is fresh by a flow, and what was received last of this flow reads as it was written
pub record IsNeedRead (plan : Plan) (timing : Timing) (asked : Asked) (delays : List (Option Delay)) (need : NeedPlan) (within : ℕ) : Type 0 where
  pub fresh : IsNeedFresh plan timing asked delays need (1000 * within)
  pub group : GroupPlan
  pub of : slice_get plan.groups.items fresh.flow.group ≡ Some group
  pub in_any_order : (silent : ℕ) → AreReadInAnyOrder timing asked fresh.place group silent fresh.bounded.frames.stream fresh.bounded.wait fresh.bits
  pub in_order : (silent : ℕ) → AreAllOrdered (frames_asked asked)
      → AreReadOnEveryBus timing asked fresh.place group silent fresh.bounded.frames.stream fresh.bounded.wait fresh.bits

-- so it is of each need of a plan that asks for an age: whoever reports who stays reports the same
abbrev pub AreNeedsRead : Plan → Timing → Type 0
AreNeedsRead plan timing = (stays : UnitPlan → Bool) × (delays : List (Option Delay)) × AsksOfBus plan timing stays delays
    × ((n : ℕ) (need : NeedPlan) (within : ℕ) → slice_get plan.needs.items n ≡ Some need → need.within ≡ Some within
    → IsNeedRead plan timing (asked_of timing plan stays) delays need within)
