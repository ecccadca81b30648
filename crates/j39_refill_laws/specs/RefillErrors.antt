-- Units that refill a buffer on a bus on which frames are damaged: they do so behind the error frame of a damaged attempt too.
use Rattle.std.specs.Prelude.{◌≡◌, ℕ, ◌+◌, ◌<◌, ◌≤◌, ◌⊎◌}
use Rattle.j39_timing.specs.AnyOrder.{Controllers, MayArbitrate}
use Rattle.j39_timing.specs.Errors.{AreAttemptsApart, Damaged, IsDamagedAt, at_place}
use Rattle.j39_timing.specs.TimedFrames.{IsOnBusAt, Schedule, Waits}
use Rattle.j39_refill_laws.specs.Refill.{IsRefilling}

-- bit t is one of those behind the error frame of an attempt of the unit in which it takes no part
pub record IsRefillingBehindError (s : Schedule) (controllers : Controllers) (d : Damaged) (refill : ℕ → ℕ) (unit t : ℕ) : Type 0 where
  pub attempt : ℕ
  pub inside : attempt < d.count
  pub its_unit : controllers.unit (d.frame attempt) ≡ unit
  pub ended : d.begin attempt + (d.sent attempt + d.error attempt) ≤ t
  pub soon : t < d.begin attempt + (d.sent attempt + d.error attempt) + refill unit

-- the unit takes no part at bit t, behind a frame or an attempt of its own
abbrev pub MayHoldBack : Schedule → Controllers → Damaged → (ℕ → ℕ) → ℕ → ℕ → Type 0
MayHoldBack s controllers d refill unit t = IsRefilling s controllers refill unit t ⊎ IsRefillingBehindError s controllers d refill unit t

-- as `IsLegalWithRefill`, on a bus on which attempts were damaged, each with an error frame behind it; whatever is tried, it may have any identifier
pub record IsLegalWithRefillAndErrors (s : Schedule) (controllers : Controllers) (d : Damaged) (refill : ℕ → ℕ) : Type 0 where
  pub apart : AreAttemptsApart s d
  pub never_idle : (p t : ℕ) → p < s.count → t < s.now → Waits s p t
      → ((q : ℕ) × (q < s.count) × IsOnBusAt s q t) ⊎ (((e : ℕ) × (e < d.count) × IsDamagedAt d e t) ⊎ MayHoldBack s controllers d refill (controllers.unit p) t)
  pub in_order : (p q : ℕ) → p < s.count → q < s.count → s.start q < s.now → Waits s p (s.start q)
      → ((h : ℕ) × MayArbitrate s controllers p h (s.start q) × (s.ident q ≤ s.ident h))
      ⊎ MayHoldBack s controllers d refill (controllers.unit p) (s.start q)

-- who sends what comes of damage: an attempt is of a unit by this place, and the error frame behind it of the unit whose frame was tried
abbrev pub error_units : Schedule → Controllers → Damaged → ℕ → Controllers
error_units s controllers d own = record {
  unit = at_place s d controllers.unit (λ e. own) (λ e. controllers.unit (d.frame e));
  keeps_order = controllers.keeps_order;
}
