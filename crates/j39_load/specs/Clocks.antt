-- How far clocks are from true time: each one, that of a unit and the bit clock of the bus, by at most `drift` parts in a million, over each time.
use Rattle.std.specs.Prelude.{ℕ, ◌+◌, ◌*◌, ◌-◌, ◌≤◌}
use Rattle.j39_network.specs.declared.plan.timing.Bitrate.{Bitrate}
use Rattle.j39_network.specs.declared.plan.timing.Bitrate.TheVariants.{Kbit125, Kbit250, Kbit500, Mbit1}
use Rattle.j39_network.specs.declared.plan.timing.Timing.{Timing}

-- the microseconds that a bit takes by a clock that is exact
abbrev pub bit_time : Bitrate → ℕ
bit_time Kbit125 = 8
bit_time Kbit250 = 4
bit_time Kbit500 = 2
bit_time Mbit1 = 1

abbrev pub million : ℕ
million = 1000000

-- what a million of a clock's units last at most, in true time, and at least
abbrev pub longest_million : Timing → ℕ
longest_million timing = million + timing.drift

abbrev pub shortest_million : Timing → ℕ
shortest_million timing = million - timing.drift

-- the true time of each bit, in millionths of a microsecond: no bit is longer or shorter than the clock of the bus allows
pub record IsTrueTime (timing : Timing) (time : ℕ → ℕ) : Type 0 where
  pub at_least : (a b : ℕ) → a ≤ b → time a + (b - a) * bit_time timing.bitrate * shortest_million timing ≤ time b
  pub at_most : (a b : ℕ) → a ≤ b → time b ≤ time a + (b - a) * bit_time timing.bitrate * longest_million timing
