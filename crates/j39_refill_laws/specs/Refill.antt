-- Units that take part in no arbitration for a while behind each frame that they sent: one buffer that an interrupt fills again, or a controller that
-- is error-passive and holds back for eight bits (ISO 11898-1, suspend transmission).
use Rattle.std.specs.Prelude.{◌≡◌, ℕ, ◌+◌, ◌<◌, ◌≤◌, ◌⊎◌, Bool, true, false, min, cond}
use Rattle.j39_timing.specs.AnyOrder.{Controllers, MayArbitrate}
use Rattle.j39_timing.specs.TimedFrames.{IsOnBusAt, Schedule, Waits}

-- bit t is one of those behind a frame of the unit in which it takes no part, which are so many at most, by the unit
pub record IsRefilling (s : Schedule) (controllers : Controllers) (refill : ℕ → ℕ) (unit t : ℕ) : Type 0 where
  pub frame : ℕ
  pub inside : frame < s.count
  pub its_unit : controllers.unit frame ≡ unit
  pub ended : s.start frame + s.bits frame ≤ t
  pub soon : t < s.start frame + s.bits frame + refill unit

-- as `IsLegalInAnyOrder`, but that a waiting frame's unit needn't take part while it refills its buffer: then the bus may be idle, and what begins may
-- have any identifier
pub record IsLegalWithRefill (s : Schedule) (controllers : Controllers) (refill : ℕ → ℕ) : Type 0 where
  pub positive : (p : ℕ) → p < s.count → 1 ≤ s.bits p
  pub queued_first : (p : ℕ) → p < s.count → s.queued p ≤ s.start p
  -- one frame at a time
  pub alone : (p q t : ℕ) → p < s.count → q < s.count → t < s.now → IsOnBusAt s p t → IsOnBusAt s q t → p ≡ q
  pub never_idle : (p t : ℕ) → p < s.count → t < s.now → Waits s p t
      → ((q : ℕ) × (q < s.count) × IsOnBusAt s q t) ⊎ IsRefilling s controllers refill (controllers.unit p) t
  pub in_order : (p q : ℕ) → p < s.count → q < s.count → s.start q < s.now → Waits s p (s.start q)
      → ((h : ℕ) × MayArbitrate s controllers p h (s.start q) × (s.ident q ≤ s.ident h)) ⊎ IsRefilling s controllers refill (controllers.unit p) (s.start q)

-- ---- frames of the other units

-- some units may refill a buffer, and no other does
abbrev pub RefillAlone : (ℕ → ℕ) → (ℕ → Bool) → Type 0
RefillAlone refill refills = (unit : ℕ) → refills unit ≡ false → refill unit ≡ 0

-- each of their frames begins within its wait, by its place, as far as is seen
abbrev pub HaveRefillWaits : Schedule → Controllers → (ℕ → Bool) → (ℕ → ℕ) → Type 0
HaveRefillWaits s controllers refills waits = (p : ℕ) → p < s.count → refills (controllers.unit p) ≡ true → s.queued p + waits p < s.now
    → s.start p ≤ s.queued p + waits p

-- the schedule in which each of their frames is queued where it begins, or so many bits later as it may wait
abbrev pub after_refill : Schedule → Controllers → (ℕ → Bool) → (ℕ → ℕ) → Schedule
after_refill s controllers refills waits = record {
  count = s.count;
  queued = λ p. cond (refills (controllers.unit p)) (min (s.start p) (s.queued p + waits p)) (s.queued p);
  start = s.start;
  bits = s.bits;
  ident = s.ident;
  now = s.now;
}
