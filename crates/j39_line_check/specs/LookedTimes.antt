-- The times of the variants at which is looked, where the bus of the line is known.
use Rattle.std.specs.Prelude.{◌≢◌, map, None}
use Rattle.j39_load.specs.BusTimes.{timing_of}
use Rattle.j39_variants.specs.declared.line.ProductLine.{ProductLine}
use Rattle.j39_line_bounds.specs.LineTimes.{AreTimesAmong}
use Rattle.j39_line_bounds.specs.declared.times.LineTimes.{LineTimes}
use Rattle.j39_line_check.specs.declared.answer.LineAnswer.{LineAnswer}
use Rattle.j39_line_check.specs.declared.answer.LineAnswer.TheVariants.{NoVariant, Found}
use Rattle.j39_line_check.specs.declared.answer.LookedAt.{LookedAt}
use Rattle.j39_line_check.specs.declared.answer.LookedAt.TheVariants.{Full, TooMany}

-- these are theirs, where they aren't too many
abbrev pub AreLookedTimes : ProductLine → LookedAt → LineTimes → Type 0
AreLookedTimes line (Full variants) times = timing_of line.plan ≢ None → AreTimesAmong line (map (λ v. v.items) variants.items) times
AreLookedTimes line (TooMany many) times = Unit {0}

-- of a line that has possible variants
abbrev pub AreAnsweredTimes : ProductLine → LineAnswer → LineTimes → Type 0
AreAnsweredTimes line NoVariant times = Unit {0}
AreAnsweredTimes line (Found reported looked) times = AreLookedTimes line looked times
