-- What a bus has to keep of its plan where gateways send on to it directly: of what these send it isn't asked when it is queued.
use Rattle.std.specs.Prelude.{◌≡◌, ◌≢◌, ℕ, ◌+◌, ◌*◌, ◌<◌, ◌≤◌, ◌⊎◌, Bool, true, false, List, ◌++◌, Option, Some}
use Rattle.std.specs.List.{slice_get}
use Rattle.j39_network.specs.declared.plan.flow_plan.FlowPlan.{FlowPlan}
use Rattle.j39_network.specs.declared.plan.timing.Timing.{Timing}
use Rattle.j39_load.specs.declared.waits.delay.Delay.TheVariants.{Within}
use Rattle.j39_load.specs.declared.frames.flow_frames.FlowFrames.{FlowFrames}
use Rattle.j39_load.specs.AnyQueues.{IsQueueGroupLevel, are_of_unit, keep_order, leasts_of, with_unplanned}
use Rattle.j39_load.specs.Asked.{frames_asked}
use Rattle.j39_load.specs.Clocks.{IsTrueTime, shortest_million}
use Rattle.j39_load.specs.Damage.{damage_frames}
use Rattle.j39_load.specs.PlannedFrames.{KeepToQueueGroup, queue_group_of, others_of, planned_at, traffic_of}
use Rattle.j39_timing.specs.AnyOrder.{Controllers, IsLegalInAnyOrder, IsUnordered}
use Rattle.j39_timing.specs.FrameBits.{longest_frame}
use Rattle.j39_timing.specs.FrameStreams.{KeepsStream, Origins}
use Rattle.j39_timing.specs.TimedFrames.{Schedule, Waits}
use Rattle.j39_timing.specs.Traffic.{AreAsWanted, IsQueuedAt, IsSingle, PlannedFramesWait, Traffic, may_share, others_queued}
use Rattle.j39_timing.specs.Waits.{IsSpaced}
use Rattle.j39_vehicle.specs.declared.vehicle.Vehicle.{Vehicle}
use Rattle.j39_vehicle.specs.declared.vehicle.forward.Forward.{Forward}
use Rattle.j39_vehicle_findings.specs.declared.point.FlowAt.{FlowAt}
use Rattle.j39_vehicle_times.specs.BusDelays.{AreDelays, delays_on}
use Rattle.j39_vehicle_times.specs.TimeFindings.{period_ms}
use Rattle.j39_vehicle_times.specs.Times.{askers_on, delay_at, direct_feeder, flow_at, first_input_at, latest_ms, queued_of, shortest_on}
use Rattle.j39_vehicle_times.specs.declared.bus_delays.Delays.{Delays}
use Rattle.j39_vehicle_laws.specs.KeptBuses.{AreKeptBuses, IsKnownBus, asked_on}
use Rattle.j39_vehicle_laws.specs.Prompt.{ArePrompt, HaveOwnReleases, IsScope, IsSentOn, Scope, scope_on}
use Rattle.j39_vehicle_laws.specs.Seen.{SeenBus, SeenBuses}

-- the streams of a plan's frames, and of what comes of damage
abbrev pub streams_of : Timing → List (Option FlowFrames) → Traffic
streams_of timing all = traffic_of (all ++ damage_frames timing)

-- as `AreFramesInAnyOrder` of `j39_load`, but that frames needn't be known to keep to their streams
pub record KeepsOtherwise (timing : Timing) (ends : ℕ) (all : List (Option FlowFrames)) (s : Schedule) (controllers : Controllers)
    (planned : ℕ → Bool) (of : Origins) (i : ℕ) : Type 0 where
  pub longest_at_most : (p : ℕ) → p < s.count → s.bits p ≤ longest_frame 8
  pub as_wanted : AreAsWanted s planned of (streams_of timing all).demands (streams_of timing all).stream
  pub from_least : (p : ℕ) → p < s.count → planned p ≡ true → (streams_of timing all).least (of.source p) ≤ s.ident p
  pub to_greatest : (p : ℕ) → p < s.count → planned p ≡ true → of.source p ≡ i → s.ident p ≤ (streams_of timing all).greatest i
  pub own_identifier : (p q t : ℕ) → p < s.count → q < s.count → t < s.now → planned p ≡ true → may_share (streams_of timing all) i (of.source p) ≡ true
      → IsQueuedAt s p t → IsQueuedAt s q t → s.ident p ≡ s.ident q → (planned q ≡ true) × (may_share (streams_of timing all) i (of.source q) ≡ true)
  pub urgency_of_others : (p : ℕ) → p < s.count → planned p ≡ false → (others_of timing).least ≤ s.ident p
  pub few_others : (p from to : ℕ) → p < s.count → planned p ≡ true → of.source p ≡ i → to < s.now → Waits s p to
      → PlannedFramesWait s planned (s.ident p) from to → others_queued s planned (s.ident p) from to ≤ (others_of timing).count
  pub of_unit : (p : ℕ) → p < s.count → planned p ≡ true → IsUnordered controllers p
      → are_of_unit (planned_at all (of.source p)) (controllers.unit p) ≡ true
  pub to_last : (p : ℕ) → p < s.count → planned p ≡ true → keep_order (planned_at all (of.source p)) ≡ false
      → s.ident p ≤ (planned_at all (of.source p)).last_ident
  pub queue_groups : (j level : ℕ) → (j ≡ i) ⊎ ((planned_at all j).least_ident < (planned_at all i).greatest_ident)
      → keep_order (planned_at all j) ≡ false → IsQueueGroupLevel (leasts_of all) all (with_unplanned timing ends (planned_at all j)) level
      → KeepToQueueGroup timing ends s planned of (queue_group_of timing ends all (planned_at all j) level)

-- ---- flows that are sent on directly

-- the bus keeps to its plan, and its bits last as long as its clock can have them; but it isn't asked when messages are queued that are sent on directly, nor how far apart their releases are; and what
-- holds while frames of a flow wait is asked of these flows alone
pub record IsOtherwiseKept (v : Vehicle) (delays : Delays) (b : ℕ) (timing : Timing) (ends : ℕ) (all : List (Option FlowFrames)) (flows : ℕ → Bool) (bus : SeenBus)
    : Type 0 where
  pub clock : IsTrueTime timing bus.time
  pub legal : IsLegalInAnyOrder bus.schedule bus.controllers
  pub own : (p : ℕ) → p < bus.schedule.count → bus.planned p ≡ true → ¬ IsSentOn v delays (record { bus = b; flow = bus.of.source p })
      → KeepsStream bus.schedule (streams_of timing all).count (streams_of timing all).stream bus.of p
  pub sent_on : (p : ℕ) → p < bus.schedule.count → bus.planned p ≡ true → IsSentOn v delays (record { bus = b; flow = bus.of.source p })
      → (bus.of.source p < (streams_of timing all).count) × (bus.schedule.bits p ≤ ((streams_of timing all).stream (bus.of.source p)).bits)
      × (bus.of.turn p < ((streams_of timing all).stream (bus.of.source p)).frames)
  pub spaced : (p q : ℕ) → p < bus.schedule.count → q < bus.schedule.count → p ≢ q → bus.planned p ≡ true → bus.planned q ≡ true
      → ¬ IsSentOn v delays (record { bus = b; flow = bus.of.source p }) → bus.of.source p ≡ bus.of.source q → bus.of.turn p ≡ bus.of.turn q
      → IsSpaced ((streams_of timing all).stream (bus.of.source p))
      → (bus.of.since p + ((streams_of timing all).stream (bus.of.source p)).period ≤ bus.of.since q)
      ⊎ (bus.of.since q + ((streams_of timing all).stream (bus.of.source p)).period ≤ bus.of.since p)
  -- of a flow each of whose messages goes in one frame two releases are as far apart in true time as the fastest clock of a unit has its period
  pub apart : (p q ms : ℕ) (flow : FlowPlan) → p < bus.schedule.count → q < bus.schedule.count → p ≢ q → bus.planned p ≡ true → bus.planned q ≡ true
      → ¬ IsSentOn v delays (record { bus = b; flow = bus.of.source p }) → bus.of.source p ≡ bus.of.source q
      → IsSingle ((streams_of timing all).stream (bus.of.source p))
      → flow_at v.buses.items (record { bus = b; flow = bus.of.source p }) ≡ Some flow → period_ms flow ≡ Some ms
      → (bus.release p + 1000 * ms * shortest_million timing ≤ bus.release q) ⊎ (bus.release q + 1000 * ms * shortest_million timing ≤ bus.release p)
  pub frames : (flow bits : ℕ) → flows flow ≡ true → slice_get (delays_on delays b) flow ≡ Some (Some (Within bits))
      → KeepsOtherwise timing ends all bus.schedule bus.controllers bus.planned bus.of flow

-- so it is of each bus of the scope that has timing
abbrev pub AreOtherwiseKept : Vehicle → Delays → Scope → SeenBuses → Type 0
AreOtherwiseKept v delays scope seen = (b : ℕ) (timing : Timing) (of_bus : IsKnownBus v delays b timing) → scope.buses b ≡ true
    → IsOtherwiseKept v delays b timing (asked_on of_bus).unplanned_end (frames_asked (asked_on of_bus)) (scope_on scope b) (seen b)

-- ---- what follows

-- the jitter of a flow that is sent on, or its time to answer, has room for the time before it is queued, and its messages needn't be further apart than those of the input
-- are, each by the fastest clocks
pub record IsForwardTimely (v : Vehicle) (delays : Delays) (at : FlowAt) (n : Forward) : Type 0 where
  pub input : FlowAt
  pub input_is : first_input_at v n ≡ Some input
  pub flow : FlowPlan
  pub its : flow_at v.buses.items at ≡ Some flow
  pub queued : ℕ
  pub queued_is : queued_of v delays n ≡ Some queued
  pub in_jitter : queued ≤ 1000 * latest_ms (askers_on v.buses.items at.bus flow) flow
  pub other : FlowPlan
  pub other_is : flow_at v.buses.items input ≡ Some other
  pub no_nearer : (p : ℕ) → period_ms flow ≡ Some p → (q : ℕ) × (period_ms other ≡ Some q)
      × (p * shortest_on v.buses.items at.bus ≤ q * shortest_on v.buses.items input.bus)

abbrev pub AreForwardsTimely : Vehicle → Delays → Type 0
AreForwardsTimely v delays = (at : FlowAt) (bits : ℕ) (n : Forward) → delay_at delays at ≡ Some bits → direct_feeder v at ≡ Some n
    → IsForwardTimely v delays at n

-- where gateways are prompt, each frame of a bus of the scope keeps to its stream, those that are sent on directly too
abbrev pub AreStreamsKept : Vehicle → Delays → Type 0
AreStreamsKept v delays = AreForwardsTimely v delays → AreDelays v delays → (scope : Scope) → IsScope v delays scope → (seen : SeenBuses)
    → AreOtherwiseKept v delays scope seen → ArePrompt v delays scope seen → HaveOwnReleases v delays scope seen → AreKeptBuses v delays scope seen
