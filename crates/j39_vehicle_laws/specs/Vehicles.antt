-- A vehicle: buses, each with its clock, and streams that gateways hand on directly from one to another.
use Rattle.std.specs.Prelude.{◌≡◌, ◌≢◌, ℕ, ◌+◌, ◌*◌, ◌<◌, ◌≤◌, ◌⊎◌, Bool, true, false}
use Rattle.j39_timing.specs.TimedFrames.{Schedule}
use Rattle.j39_timing.specs.FrameStreams.{Origins, AreOfStreams}
use Rattle.j39_timing.specs.Traffic.{Traffic, Others, IsSingle, delay_of}
use Rattle.j39_timing.specs.Prefixes.{AreBegunUntil, planned_until}
use Rattle.j39_vehicle_laws.specs.Gateways.{Clock, Carrier, IsClock, IsHandedOn, IsIts, time_of}
use Rattle.j39_timing.specs.Waits.{IsSpaced}
use Rattle.j39_timing.specs.declared.stream.Stream.{Stream}

pub record Bus : Type 0 where
  pub schedule : Schedule
  pub clock : Clock
  pub planned : ℕ → Bool
  pub of : Origins
  pub traffic : Traffic
  pub others : Others
  pub longest : ℕ
  -- the release of a frame's message
  pub release : ℕ → ℕ

pub record Vehicle : Type 0 where
  pub bus : ℕ → Bus
  -- the stream of a bus is handed on directly: from this bus, from this stream there, and at most so much after a message has ended there
  pub direct : ℕ → ℕ → Bool
  pub from_bus : ℕ → ℕ → ℕ
  pub from_stream : ℕ → ℕ → ℕ
  pub within : ℕ → ℕ → ℕ
  -- how many bits a frame of the stream waits; how much after its release it ends, and how far releases are apart
  pub wait : ℕ → ℕ → ℕ
  pub behind : ℕ → ℕ → ℕ
  pub apart : ℕ → ℕ → ℕ

abbrev pub carrier : Vehicle → ℕ → ℕ → Carrier
carrier v b i = record {
  schedule = (v.bus b).schedule;
  clock = (v.bus b).clock;
  planned = (v.bus b).planned;
  of = (v.bus b).of;
  source = i;
  release = (v.bus b).release;
  born = (v.bus b).release;
}

abbrev pub stream_at : Vehicle → ℕ → ℕ → Stream
stream_at v b i = (v.bus b).traffic.stream i

-- the stream from which one is handed on
abbrev pub input_at : Vehicle → ℕ → ℕ → Carrier
input_at v b i = carrier v (v.from_bus b i) (v.from_stream b i)

-- when a message of it is queued at most, after its release
abbrev pub queued_within : Vehicle → ℕ → ℕ → ℕ
queued_within v b i = v.behind (v.from_bus b i) (v.from_stream b i) + v.within b i

-- the frame is planned on the bus
abbrev pub IsPlannedOn : Bus → ℕ → Type 0
IsPlannedOn b p = (p < b.schedule.count) × (b.planned p ≡ true)

-- its planned frames that are queued before a bit keep to its streams
abbrev pub KeepsItsStreamsUntil : Bus → ℕ → Type 0
KeepsItsStreamsUntil b by = AreOfStreams b.schedule (λ p. planned_until b.schedule b.planned by p ≡ true) b.traffic.count b.traffic.stream b.of

-- what is known of the buses, but that what is handed on directly keeps to its streams
pub record IsKnown (v : Vehicle) : Type 0 where
  pub clocks : (b : ℕ) → IsClock (v.bus b).clock
  pub some_bits : (b p : ℕ) → p < (v.bus b).schedule.count → 1 ≤ (v.bus b).schedule.bits p
  pub queued_first : (b p : ℕ) → p < (v.bus b).schedule.count → (v.bus b).schedule.queued p ≤ (v.bus b).schedule.start p
  pub known : (b p : ℕ) → IsPlannedOn (v.bus b) p → (v.bus b).of.source p < (v.bus b).traffic.count
  pub bits_at_most : (b p : ℕ) → IsPlannedOn (v.bus b) p → (v.bus b).schedule.bits p ≤ (stream_at v b ((v.bus b).of.source p)).bits
  pub turns : (b p : ℕ) → IsPlannedOn (v.bus b) p → (v.bus b).of.turn p < (stream_at v b ((v.bus b).of.source p)).frames
  -- streams of the bus itself
  pub own_first : (b p : ℕ) → IsPlannedOn (v.bus b) p → v.direct b ((v.bus b).of.source p) ≡ false → (v.bus b).of.since p ≤ (v.bus b).schedule.queued p
  pub own_jitter : (b p : ℕ) → IsPlannedOn (v.bus b) p → v.direct b ((v.bus b).of.source p) ≡ false
      → (v.bus b).schedule.queued p ≤ (v.bus b).of.since p + (stream_at v b ((v.bus b).of.source p)).jitter
  pub own_release : (b p : ℕ) → IsPlannedOn (v.bus b) p → v.direct b ((v.bus b).of.source p) ≡ false
      → (v.bus b).release p ≡ time_of (v.bus b).clock ((v.bus b).of.since p)
  pub own_spaced : (b p q : ℕ) → IsPlannedOn (v.bus b) p → IsPlannedOn (v.bus b) q → p ≢ q → v.direct b ((v.bus b).of.source p) ≡ false
      → (v.bus b).of.source p ≡ (v.bus b).of.source q → (v.bus b).of.turn p ≡ (v.bus b).of.turn q
      → IsSpaced (stream_at v b ((v.bus b).of.source p))
      → ((v.bus b).of.since p + (stream_at v b ((v.bus b).of.source p)).period ≤ (v.bus b).of.since q)
      ⊎ ((v.bus b).of.since q + (stream_at v b ((v.bus b).of.source p)).period ≤ (v.bus b).of.since p)
  -- the moments of a unit are as far apart in true time, whatever the clock of its bus shows
  pub own_apart : (b i p q : ℕ) → IsIts (carrier v b i) p → IsIts (carrier v b i) q → p ≢ q → IsSingle (stream_at v b i) → v.direct b i ≡ false
      → ((v.bus b).release p + v.apart b i ≤ (v.bus b).release q) ⊎ ((v.bus b).release q + v.apart b i ≤ (v.bus b).release p)
  -- streams that are handed on directly, and those from which they are
  pub handed : (b i : ℕ) → v.direct b i ≡ true → IsHandedOn (input_at v b i) (carrier v b i) (v.within b i)
  pub single : (b i : ℕ) → v.direct b i ≡ true → IsSingle (stream_at v b i)
  pub input_single : (b i : ℕ) → v.direct b i ≡ true → IsSingle (stream_at v (v.from_bus b i) (v.from_stream b i))
  -- the law of delays of the other bus, of what is seen up to a bit: where its frames that are queued before keep to their streams, those of the
  -- input begin in time
  pub input_begun : (b i by : ℕ) → v.direct b i ≡ true → by ≤ (v.bus (v.from_bus b i)).schedule.now
      → KeepsItsStreamsUntil (v.bus (v.from_bus b i)) by
      → AreBegunUntil (v.bus (v.from_bus b i)).schedule (v.bus (v.from_bus b i)).planned (v.bus (v.from_bus b i)).of (v.from_stream b i)
      (v.wait (v.from_bus b i) (v.from_stream b i)) by
  -- numbers: the jitter has room for what comes before, and the period is no longer than releases are apart
  pub jitter_enough : (b i : ℕ) → v.direct b i ≡ true → queued_within v b i ≤ (v.bus b).clock.shortest * (stream_at v b i).jitter
  pub often_enough : (b i : ℕ) → v.direct b i ≡ true → (v.bus b).clock.longest * (stream_at v b i).period ≤ v.apart b i
  pub behind_own : (b i : ℕ) → v.direct b i ≡ false → (v.bus b).clock.longest * delay_of (stream_at v b i) (v.wait b i) ≤ v.behind b i
  pub behind_direct : (b i : ℕ) → v.direct b i ≡ true → queued_within v b i + (v.bus b).clock.longest * (v.wait b i + (stream_at v b i).bits) ≤ v.behind b i
  pub apart_direct : (b i : ℕ) → v.direct b i ≡ true → v.apart b i ≤ v.apart (v.from_bus b i) (v.from_stream b i)

-- the planned frames of a bus keep to its streams, those that are handed on directly too
abbrev pub KeepsItsStreams : Bus → Type 0
KeepsItsStreams b = AreOfStreams b.schedule (λ p. b.planned p ≡ true) b.traffic.count b.traffic.stream b.of
