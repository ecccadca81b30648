-- Times of lines, in microseconds, and where the log breaks off: the clock was set, or the bus slept.
use Rattle.std.specs.Prelude.{ℕ, ◌+◌, ◌*◌, ◌^◌, nat_lt, max, ◌||◌, Bool, false, if◌then◌else◌, Option, Some, None, is_none}
use Rattle.j39_network.specs.declared.plan.Plan.{Plan}
use Rattle.j39_follow.specs.LogLines.{moment_of}
use Rattle.std.specs.Prelude.{List}

-- how long a log may be silent without a break
abbrev pub longest_silence : ℕ
longest_silence = 1000000

-- a time of a clock: with at most 12 digits of seconds none is greater
abbrev pub clock_time : Option ℕ → Option ℕ
clock_time None = None
clock_time (Some time) = if nat_lt time (2 ^ 60) then Some time else None

-- the time of a line, by what is printed of it; where the plan reports nothing of its bus no line has one
abbrev pub line_time : Plan → List ℕ → Option ℕ
line_time plan text = if is_none plan.timing then None else clock_time (moment_of text)

-- the clock was set back: the time lies before the newest one by more than both may differ from the ends of their frames
abbrev pub is_set_back : ℕ → ℕ → ℕ → Bool
is_set_back stamps newest time = nat_lt (time + 2 * stamps) newest

-- the newest time so far, and the time of a frame: the log breaks off just before the frame
abbrev pub breaks : ℕ → Option ℕ → Option ℕ → Bool
breaks stamps (Some newest) (Some time) = is_set_back stamps newest time || nat_lt (newest + longest_silence) time
breaks stamps _ _ = false

-- the newest time behind a frame: times begin anew just before a frame without one, and before one at which the clock was set back
abbrev pub newest_behind : ℕ → Option ℕ → Option ℕ → Option ℕ
newest_behind stamps newest None = None
newest_behind stamps None (Some time) = Some time
newest_behind stamps (Some newest) (Some time) = Some (if is_set_back stamps newest time then time else max newest time)
