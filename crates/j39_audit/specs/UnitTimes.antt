-- Times of units by the clock of the logger.
use Rattle.std.specs.Prelude.{ℕ, ◌+◌, ◌-◌, ◌*◌, ◌/◌}
use Rattle.std.specs.Int.{div_ceil}
use Rattle.j39_network.specs.declared.plan.timing.Timing.{Timing}

-- so many milliseconds of a unit's clock, in microseconds of the logger's: at least, and at most. The unit's clock differs from true time by
-- the plan's drift, and the logger's by a thousandth
abbrev pub shortest_us : Timing → ℕ → ℕ
shortest_us t ms = 999 * ms * (1000000 - t.drift) / 1000000

abbrev pub longest_us : Timing → ℕ → ℕ
longest_us t ms = div_ceil (1001 * ms * (1000000 + t.drift)) 1000000
