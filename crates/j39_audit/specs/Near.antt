-- Which message of a stream is too near to those before it: the earliest moment of the newest message, by the lower bounds so far, is kept.
use Rattle.std.specs.Prelude.{◌≡◌, ℕ, zero, suc, ◌+◌, ◌-◌, ◌*◌, ◌<◌, ◌≤◌, Bool, false, if◌then◌else◌, nat_lt, max, Option, Some, None}
use Rattle.j39_audit.specs.declared.window.Window.{Window}

-- the greater of a moment a step later and a lower bound, as far as they are there
unfoldable pub step_on : ℕ → Option ℕ → Option ℕ → Option ℕ
step_on step None lower = lower
step_on step (Some e) None = Some (e + step)
step_on step (Some e) (Some x) = Some (max (e + step) x)

-- a moment that is there is later than this
unfoldable pub is_later_than : Option ℕ → ℕ → Bool
is_later_than None upper = false
is_later_than (Some e) upper = nat_lt upper e

-- by how much
unfoldable pub excess : Option ℕ → ℕ → Option ℕ
excess None upper = None
excess (Some e) upper = if nat_lt upper e then Some (e - upper) else None

-- the earliest moment of a message by this one's bounds and those before it, before it is looked at whether it fits
abbrev pub candidate : ℕ → Option ℕ → Window → Option ℕ
candidate step earliest window = step_on step earliest window.lower

-- what is kept behind it: where it doesn't fit, this one begins anew
abbrev pub earliest_next : ℕ → Option ℕ → Window → Option ℕ
earliest_next step earliest window =
    if is_later_than (candidate step earliest window) window.upper then window.lower else candidate step earliest window

-- what is kept behind the first n messages
unfoldable pub earliest : ℕ → (ℕ → Window) → ℕ → Option ℕ
earliest step windows zero = None
earliest step windows (suc n) = earliest_next step (earliest step windows n) (windows n)

-- the earliest moment of message j, before it is looked at whether it fits
abbrev pub earliest_at : ℕ → (ℕ → Window) → ℕ → Option ℕ
earliest_at step windows j = candidate step (earliest step windows j) (windows j)

-- message j is reported as too near
abbrev pub is_too_near : ℕ → (ℕ → Window) → ℕ → Bool
is_too_near step windows j = is_later_than (earliest_at step windows j) (windows j).upper

-- ---- in terms of the bounds alone

-- from the lower bound of message i on, at or before message j, there is no room for a step between each two up to message j
pub record IsTooNear (step : ℕ) (windows : ℕ → Window) (j : ℕ) : Type 0 where
  pub first : ℕ
  pub before : first ≤ j
  pub lower : ℕ
  pub bound : (windows first).lower ≡ Some lower
  pub no_room : (windows j).upper < lower + (j - first) * step
