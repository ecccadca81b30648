-- What a bus that keeps to a plan has to carry, however long it runs: so many bits a second.
use Rattle.std.specs.Prelude.{◌≡◌, ℕ, ◌+◌, ◌*◌, ◌<◌, ◌≤◌, Bool, true, false, ◌&&◌, not, cond, nat_lt}
use Rattle.j39_network.specs.declared.plan.Plan.{Plan}
use Rattle.j39_network.specs.declared.plan.timing.ErrorRate.{ErrorRate}
use Rattle.j39_network.specs.declared.plan.timing.Timing.{Timing}
use Rattle.j39_load.specs.Clocks.{bit_time}
use Rattle.j39_load.specs.KeepsErrors.{KeepsErrors}
use Rattle.j39_load.specs.KeepsPlan.{KeepsToPlan}
use Rattle.j39_load.specs.SentFrames.{FrameSources, Held, Source}
use Rattle.j39_load.specs.SentFrames.{Single, First, InSession, Asking, Announcing, Carrying}
use Rattle.j39_timing.specs.Errors.{Damaged, IsBusWithErrors}
use Rattle.j39_timing.specs.Sums.{total}
use Rattle.j39_timing.specs.TimedFrames.{Schedule}

-- the frame is queued at a bit or in so many milliseconds of the bus's own clock from it on
abbrev pub is_queued_within : Timing → ℕ → Schedule → ℕ → ℕ → Bool
is_queued_within timing ms s from p =
    not (nat_lt (s.queued p) from) && nat_lt (s.queued p * bit_time timing.bitrate) (from * bit_time timing.bitrate + 1000 * ms)

-- a flow that has long messages too counts with these: one that goes in one frame comes in place of a long one
abbrev pub is_counted : Source → Bool
is_counted (Single f) = true
is_counted (First f) = false
is_counted (InSession f part) = true
is_counted (Asking r) = true
is_counted (Announcing u m) = true
is_counted (Carrying u m k) = true

abbrev pub counts_in_load : (ℕ → Bool) → FrameSources → ℕ → Bool
counts_in_load planned sent p = planned p && is_counted (sent.source p)

-- the bits of the frames that count and are queued so
abbrev pub bits_queued : Timing → ℕ → Schedule → (ℕ → Bool) → ℕ → ℕ
bits_queued timing ms s planned from = total s.count (λ p. cond (planned p && is_queued_within timing ms s from p) (s.bits p) 0)

-- an attempt begins so
abbrev pub is_begun_within : Timing → ℕ → Damaged → ℕ → ℕ → Bool
is_begun_within timing ms d from e =
    not (nat_lt (d.begin e) from) && nat_lt (d.begin e * bit_time timing.bitrate) (from * bit_time timing.bitrate + 1000 * ms)

-- the bits of the damaged attempts that begin in that time, and of the error frames behind them
abbrev pub bits_damaged : Timing → ℕ → Damaged → ℕ → ℕ
bits_damaged timing ms d from = total d.count (λ e. cond (is_begun_within timing ms d from e) (d.sent e + d.error e) 0)

-- a second has so many milliseconds
abbrev pub seconds : ℕ → ℕ
seconds n = 1000 * n

-- where clocks agree, on each bus that keeps to the plan no more bits are queued than so many a second, and a number more that is the same however long it runs: by it
-- in one second more can be queued, where jitter brings messages together
pub record IsLongRunLoad (plan : Plan) (timing : Timing) (load : ℕ) : Type 0 where
  pub more : ℕ
  pub queued : timing.drift ≡ 0 → (s : Schedule) (planned : ℕ → Bool) (sent : FrameSources) (held : Held) → ((p : ℕ) → p < s.count → s.queued p ≤ s.start p)
      → KeepsToPlan plan timing s planned sent held → (from n : ℕ) → bits_queued timing (seconds n) s (counts_in_load planned sent) from ≤ n * load + more
  -- and so it is with what comes of damage
  pub with_damage : timing.drift ≡ 0 → (s : Schedule) (d : Damaged) (planned : ℕ → Bool) (sent : FrameSources) (held : Held) (rate : ErrorRate) → IsBusWithErrors s d
      → KeepsToPlan plan timing s planned sent held → KeepsErrors timing rate s d planned sent
      → (from n : ℕ) → bits_queued timing (seconds n) s (counts_in_load planned sent) from + bits_damaged timing (seconds n) d from ≤ n * load + more
