-- The ranges that every signal keeps.
use Rattle.std.specs.Prelude.{ℕ, ◌*◌, ◌%◌, ◌^◌, ◌<◌, ◌≤◌, ℤ, pos, negsuc, ◌≤ℤ◌, Bool, ◌==◌, ◌&&◌, nat_le, IsTrue}
use Rattle.j39_signal.specs.declared.signal_parts.SignalParts.{SignalParts}

-- the number is 1 to 10,000,000 and a product of 2s and 5s, so that what is divided by it has finitely many decimals: 2 ^ 23 and
-- 5 ^ 10 are the greatest powers in that range
abbrev pub divides_decimally : ℕ → Bool
divides_decimally per = nat_le 1 per && (nat_le per 10000000 && 2 ^ 23 * 5 ^ 10 % per == 0)

-- the ranges that every signal keeps
pub record IsSignal (start bits step : ℕ) (offset : ℤ) : Type 0 where
  pub start_range : start < 2 ^ 16
  pub some_bits : 1 ≤ bits
  pub most_bits : bits ≤ 64
  pub some_step : 1 ≤ step
  pub most_step : step ≤ 1000000
  pub least_offset : negsuc 999999999999 ≤ℤ offset
  pub greatest_offset : offset ≤ℤ pos 1000000000000

abbrev pub HasRanges : SignalParts → Type 0
HasRanges s = IsSignal s.start s.bits s.step s.offset

-- what the values of a signal are divided by
abbrev pub IsDivisor : ℕ → Type 0
IsDivisor per = IsTrue (divides_decimally per)

-- the numbers of which a signal can be made
pub record CanBeSignal (bits : ℕ) (step offset : ℤ) : Type 0 where
  pub some_bits : 1 ≤ bits
  pub most_bits : bits ≤ 64
  pub some_step : pos 1 ≤ℤ step
  pub most_step : step ≤ℤ pos 1000000
  pub least_offset : negsuc 999999999999 ≤ℤ offset
  pub greatest_offset : offset ≤ℤ pos 1000000000000
