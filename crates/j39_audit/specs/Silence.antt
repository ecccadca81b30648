-- Which message of a flow is too far behind those before it: the latest moment of the newest message, by the upper bounds so far, is kept.
use Rattle.std.specs.Prelude.{◌≡◌, ℕ, zero, suc, ◌+◌, ◌-◌, ◌*◌, ◌<◌, Bool, false, if◌then◌else◌, nat_lt, min, Option, Some, None}
use Rattle.j39_audit.specs.declared.window.Window.{Window}

-- a lower bound that is there lies more than a pause behind a moment that is there
unfoldable pub lies_behind : ℕ → Option ℕ → Option ℕ → Bool
lies_behind pause None lower = false
lies_behind pause (Some l) None = false
lies_behind pause (Some l) (Some x) = nat_lt (l + pause) x

-- by how much
unfoldable pub lag : ℕ → Option ℕ → Option ℕ → Option ℕ
lag pause None lower = None
lag pause (Some l) None = None
lag pause (Some l) (Some x) = if nat_lt (l + pause) x then Some (x - (l + pause)) else None

-- the lesser of a moment a pause later, where it is there, and an upper bound
unfoldable pub within_pause : ℕ → Option ℕ → ℕ → ℕ
within_pause pause None upper = upper
within_pause pause (Some l) upper = min upper (l + pause)

-- what is kept behind a message: where it is too far behind, it begins anew
abbrev pub latest_next : ℕ → Option ℕ → Window → ℕ
latest_next pause latest window = if lies_behind pause latest window.lower then window.upper else within_pause pause latest window.upper

-- what is kept behind the first n messages
unfoldable pub latest : ℕ → (ℕ → Window) → ℕ → Option ℕ
latest pause windows zero = None
latest pause windows (suc n) = Some (latest_next pause (latest pause windows n) (windows n))

-- by a lower bound of the moment of message j, or of the one that is missing there, the flow is reported as silent
abbrev pub is_silent : ℕ → (ℕ → Window) → ℕ → Option ℕ → Bool
is_silent pause windows j lower = lies_behind pause (latest pause windows j) lower

-- ---- in terms of the bounds alone

-- from the upper bound of message i, before message j, so many pauses don't lead up to the bound there
pub record IsTooFar (pause : ℕ) (windows : ℕ → Window) (j : ℕ) (lower : Option ℕ) : Type 0 where
  pub first : ℕ
  pub before : first < j
  pub bound : ℕ
  pub is : lower ≡ Some bound
  pub gap : (windows first).upper + (j - first) * pause < bound
