-- How soon requests ask for a flow, as a walk over them reports it.
use Rattle.std.specs.Prelude.{ℕ, nat_lt, Bool, false, Option, Some, None}

-- what comes each so many milliseconds, if it does, comes sooner than each so many
abbrev pub is_each_within : ℕ → Option ℕ → Bool
is_each_within period None = false
is_each_within period (Some every) = nat_lt every period
