-- What calls of a source and a sink do to their counts, and what was written where a call failed.
use Rattle.std.specs.Prelude.{◌≡◌, ℕ, ◌+◌, ◌-◌, ◌<◌, ◌≤◌, ◌^◌, ◌==◌, ◌⊎◌, ◌&&◌, ◌||◌, nat_lt, min, max}
use Rattle.std.specs.Prelude.{Bool, if◌then◌else◌, List, length, take, Option, Result, is_ok, not}
use Rattle.std.specs.Result.{result_unwrap_or}
use Rattle.std.specs.Io.KnownBytes.{Appends, Consumes}
use Rattle.j39_stream.specs.declared.failed.Failed.{Failed}
use Rattle.j39_stream.specs.declared.limits.Limits.{Limits}

-- what is seen of a source: the bytes that are left, where they are known, how many calls were made, and how many of them failed
pub record SourceState : Type 0 where
  pub left : Option (List ℕ)
  pub pulls : ℕ
  pub failures : ℕ

-- what is seen of a sink: the bytes that were taken, where they are known, and how many calls failed
pub record SinkState : Type 0 where
  pub taken : Option (List ℕ)
  pub failures : ℕ

-- a count after n more calls: it grows up to the largest number of 64 bits
abbrev pub after_calls : ℕ → ℕ → ℕ
after_calls count n = max count (min (count + n) (2 ^ 64 - 1))

abbrev pub one_more : ℕ → ℕ
one_more count = after_calls count 1

-- the count of failed calls after a pull
abbrev pub after_pull : Result ℕ Failed → ℕ → ℕ
after_pull r count = if is_ok r then count else one_more count

-- a put failed where it says so, and where it took none of some bytes
abbrev pub put_failed : Result ℕ Failed → List ℕ → Bool
put_failed r bytes = result_unwrap_or r 0 == 0 && (not (is_ok r) || nat_lt 0 (length bytes))

-- the count of failed calls after a put
abbrev pub after_put : Result ℕ Failed → List ℕ → ℕ → ℕ
after_put r bytes count = if put_failed r bytes then one_more count else count

-- a call failed between these counts, or they stood at the largest number
abbrev pub HasFailed : ℕ → ℕ → Type 0
HasFailed old new = (old < new) ⊎ (2 ^ 64 - 1 ≤ old)

-- some first bytes of the text were taken
abbrev pub AppendsPart : Option (List ℕ) → Option (List ℕ) → List ℕ → Type 0
AppendsPart old new text = (n : ℕ) × Appends old new (take n text)

-- ---- limits

-- those of a plan, of a schedule, and of the frame that stands on standard input
abbrev pub plan_limits : Limits
plan_limits = record { bytes = 16777216; calls = 1048576 }

-- those of a log: no count of its bytes, calls or lines wraps at 64 bits
abbrev pub log_limits : Limits
log_limits = record { bytes = 2 ^ 62; calls = 2 ^ 62 }

-- what a source gave between these, in the calls that were counted, keeps the limits
abbrev pub KeepsLimits : Limits → SourceState → SourceState → Type 0
KeepsLimits limits old new =
    (bytes : List ℕ) × Consumes old.left new.left bytes × (length bytes ≤ limits.bytes)
    × ((n : ℕ) × (n ≤ limits.calls) × (new.pulls ≡ after_calls old.pulls n))

-- more bytes came than the limit, or all the calls were made and each of them gave a byte
abbrev pub IsTooLong : Limits → List ℕ → ℕ → ℕ → Type 0
IsTooLong limits bytes old_pulls new_pulls =
    (limits.bytes < length bytes) ⊎ ((limits.calls ≤ length bytes) × (new_pulls ≡ after_calls old_pulls limits.calls))

-- it passes them
abbrev pub PassesLimits : Limits → SourceState → SourceState → Type 0
PassesLimits limits old new = (bytes : List ℕ) × Consumes old.left new.left bytes × IsTooLong limits bytes old.pulls new.pulls
