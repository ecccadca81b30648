-- Several buses, and devices that hand on what comes on one of them to another one. Times that they have in common are true ones, in any unit.
use Rattle.std.specs.Prelude.{◌≡◌, ◌≢◌, ℕ, ◌+◌, ◌*◌, ◌<◌, ◌≤◌, ◌⊎◌, Bool, true, List, [], ◌∷◌}
use Rattle.j39_timing.specs.TimedFrames.{Schedule}
use Rattle.j39_timing.specs.FrameStreams.{Origins}
use Rattle.j39_timing.specs.declared.stream.Stream.{Stream}
use Rattle.j39_timing.specs.Traffic.{IsStreamInTime, delay_of}

-- when each bit of a bus begins, and how long bits are at least and at most
pub record Clock : Type 0 where
  pub time : ℕ → ℕ
  pub shortest : ℕ
  pub longest : ℕ

abbrev pub time_of : Clock → ℕ → ℕ
time_of c t = c.time t

-- so many bits from any one on last so long, over each time, however short
pub record IsClock (c : Clock) : Type 0 where
  pub some_time : 0 < c.shortest
  pub at_least : (t bits : ℕ) → c.time t + c.shortest * bits ≤ c.time (t + bits)
  pub at_most : (t bits : ℕ) → c.time (t + bits) ≤ c.time t + c.longest * bits

-- one whose first bit begins so late, and all of whose bits are as long
abbrev pub steady : ℕ → ℕ → Clock
steady phase unit = record { time = λ t. phase + unit * t; shortest = unit; longest = unit }

-- the planned frames of one stream on its bus, and what each of them carries
pub record Carrier : Type 0 where
  pub schedule : Schedule
  pub clock : Clock
  pub planned : ℕ → Bool
  pub of : Origins
  pub source : ℕ
  -- the release of the frame's message: of one that a gateway hands on directly, that of the message which it hands on
  pub release : ℕ → ℕ
  -- when the value that the frame carries was its origin's
  pub born : ℕ → ℕ

abbrev pub IsIts : Carrier → ℕ → Type 0
IsIts x p = (p < x.schedule.count) × (x.planned p ≡ true) × (x.of.source p ≡ x.source)

-- it was seen to begin
abbrev pub HasBegun : Carrier → ℕ → Type 0
HasBegun x p = IsIts x p × (x.schedule.start p < x.schedule.now)

abbrev pub end_time : Carrier → ℕ → ℕ
end_time x p = time_of x.clock (x.schedule.start p + x.schedule.bits p)

abbrev pub queue_time : Carrier → ℕ → ℕ
queue_time x p = time_of x.clock (x.schedule.queued p)

-- from one time to another, a frame had its release less than `interval` ago; it ends at most `behind` after its release, and what it
-- carries was no older than `old` then
abbrev pub Comes : Carrier → ℕ → ℕ → ℕ → ℕ → ℕ → Type 0
Comes x old interval behind from to = (t : ℕ) → from ≤ t → t ≤ to
    → (p : ℕ) × HasBegun x p × (x.release p ≤ t) × (t < x.release p + interval) × (end_time x p ≤ x.release p + behind) × (x.release p ≤ x.born p + old)

-- from one time to another, a frame has ended whose value was its origin's less than `age` ago
abbrev pub IsYoung : Carrier → ℕ → ℕ → ℕ → Type 0
IsYoung x age from to = (t : ℕ) → from ≤ t → t ≤ to → (p : ℕ) × HasBegun x p × (end_time x p ≤ t) × (t < x.born p + age)

-- releases are those of the bus itself
abbrev pub HasOwnReleases : Carrier → Type 0
HasOwnReleases x = (p : ℕ) → IsIts x p → x.release p ≡ time_of x.clock (x.of.since p)

-- from one time to another, a frame has had its release less than `interval` ago
abbrev pub KeepsReleasing : Carrier → ℕ → ℕ → ℕ → Type 0
KeepsReleasing x interval from to = (t : ℕ) → from ≤ t → t ≤ to → (p : ℕ) × IsIts x p × (x.release p ≤ t) × (t < x.release p + interval)

-- what frames from some release on carry was no older than `old` at their releases
abbrev pub IsOldAtMost : Carrier → ℕ → ℕ → ℕ → Type 0
IsOldAtMost x old from to = (p : ℕ) → IsIts x p → from ≤ x.release p → x.release p ≤ to → x.release p ≤ x.born p + old

-- frames that keep to the stream
abbrev pub KeepTo : Carrier → Stream → Type 0
KeepTo x stream = (p : ℕ) → IsIts x p → (x.schedule.bits p ≤ stream.bits) × (x.schedule.queued p ≤ x.of.since p + stream.jitter)

-- ---- gateways

-- each message of the input is handed on at most `within` after it has ended
abbrev pub HandsOn : Carrier → Carrier → ℕ → Type 0
HandsOn x y within = (p : ℕ) → HasBegun x p
    → (q : ℕ) × IsIts y q × (queue_time y q ≤ end_time x p + within) × (y.release q ≡ x.release p) × (y.born q ≡ x.born p)

-- what is sent carries the newest message that had ended `within` before its release, or a newer one
abbrev pub SendsNewest : Carrier → Carrier → ℕ → Type 0
SendsNewest x y within = (p q : ℕ) → HasBegun x p → IsIts y q → end_time x p + within ≤ y.release q → x.born p ≤ y.born q

-- each frame of the output hands on a message of the input of its own, when this has ended, and at most `within` after that; its release on
-- its bus is the last bit that begins by the release
pub record IsHandedOn (x y : Carrier) (within : ℕ) : Type 0 where
  pub what : ℕ → ℕ
  pub begun : (q : ℕ) → IsIts y q → HasBegun x (what q)
  pub releases : (q : ℕ) → IsIts y q → y.release q ≡ x.release (what q)
  pub after : (q : ℕ) → IsIts y q → end_time x (what q) ≤ queue_time y q
  pub within_time : (q : ℕ) → IsIts y q → queue_time y q ≤ end_time x (what q) + within
  pub different : (p q : ℕ) → IsIts y p → IsIts y q → p ≢ q → what p ≢ what q
  pub first_bit : (q : ℕ) → IsIts y q → time_of y.clock (y.of.since q) ≤ y.release q
  pub last_bit : (q : ℕ) → IsIts y q → y.release q < time_of y.clock (y.of.since q + 1)

-- the releases of two frames are so far apart
abbrev pub AreApart : Carrier → ℕ → Type 0
AreApart x period = (p q : ℕ) → IsIts x p → IsIts x q → p ≢ q → (x.release p + period ≤ x.release q) ⊎ (x.release q + period ≤ x.release p)

-- each ends so long after its release at most, and none before
abbrev pub EndWithin : Carrier → ℕ → Type 0
EndWithin x behind = (p : ℕ) → HasBegun x p → (x.release p ≤ end_time x p) × (end_time x p ≤ x.release p + behind)

-- what a bus takes for granted of such a stream: a frame is queued from its release on, at most `jitter` bits behind it, and releases are a period apart
pub record KeepsToStream (y : Carrier) (period jitter : ℕ) : Type 0 where
  pub release_first : (q : ℕ) → IsIts y q → y.of.since q ≤ y.schedule.queued q
  pub jitter_at_most : (q : ℕ) → IsIts y q → y.schedule.queued q ≤ y.of.since q + jitter
  pub spaced : (p q : ℕ) → IsIts y p → IsIts y q → p ≢ q → (y.of.since p + period ≤ y.of.since q) ⊎ (y.of.since q + period ≤ y.of.since p)

-- ---- ways over several gateways

-- how a stream comes, from one time to another: see `Comes`
pub record Coming : Type 0 where
  pub old : ℕ
  pub interval : ℕ
  pub behind : ℕ
  pub from : ℕ
  pub to : ℕ

abbrev pub ComesSo : Carrier → Coming → Type 0
ComesSo x c = Comes x c.old c.interval c.behind c.from c.to

-- how old it is at most where it is received
abbrev pub age_of : Coming → ℕ
age_of c = c.old + (c.interval + c.behind)

-- how a gateway hands on: directly, or at its own beat, of which a release came less than so long ago, from one time to another; with the wait of
-- the stream that it sends
pub data Mode : Type 0 where
  directly : Mode
  at_its_beat : ℕ → ℕ → ℕ → Mode

pub record Hop : Type 0 where
  pub within : ℕ
  pub to : Carrier
  pub stream : Stream
  pub wait : ℕ
  pub mode : Mode

-- how it comes behind a gateway
abbrev pub coming_behind : Hop → Mode → Coming → Coming
coming_behind h directly c = record {
  old = c.old;
  interval = c.interval;
  behind = c.behind + (h.within + h.to.clock.longest * (h.wait + h.stream.bits));
  from = c.from;
  to = c.to;
}
coming_behind h (at_its_beat interval first last) c = record {
  old = age_of c + h.within;
  interval = interval;
  behind = h.to.clock.longest * delay_of h.stream h.wait;
  from = first;
  to = last;
}

-- what is sent keeps to its stream, is in time on its bus, and is what the gateway has heard
abbrev pub IsPrompt : Carrier → Coming → Hop → Mode → Type 0
IsPrompt x c h directly = HandsOn x h.to h.within
    × ((q : ℕ) → IsIts h.to q → time_of h.to.clock (h.to.of.since q) ≤ h.to.release q)
    × (c.to + h.to.clock.longest * (h.stream.jitter + h.wait) < time_of h.to.clock h.to.schedule.now)
IsPrompt x c h (at_its_beat interval first last) = SendsNewest x h.to h.within × HasOwnReleases h.to
    × KeepsReleasing h.to interval first last × (last + h.to.clock.longest * (h.stream.jitter + h.wait) < time_of h.to.clock h.to.schedule.now)
    × (c.from + c.behind + h.within + interval ≤ first) × (last ≤ c.to + c.behind + h.within)

abbrev pub IsInTimeThere : Hop → Type 0
IsInTimeThere h = IsClock h.to.clock × IsStreamInTime h.to.schedule h.to.planned h.to.of h.to.source h.stream h.wait × KeepTo h.to h.stream

-- from gateway to gateway
unfoldable pub AreHops : Carrier → Coming → List Hop → Type 0
AreHops x c [] = Unit {0}
AreHops x c (h ∷ hs) = IsInTimeThere h × IsPrompt x c h h.mode × AreHops h.to (coming_behind h h.mode c) hs

-- where it comes at last, and how
unfoldable pub last_of : Carrier → List Hop → Carrier
last_of x [] = x
last_of x (h ∷ hs) = last_of h.to hs

unfoldable pub coming_at_last : Coming → List Hop → Coming
coming_at_last c [] = c
coming_at_last c (h ∷ hs) = coming_at_last (coming_behind h h.mode c) hs
