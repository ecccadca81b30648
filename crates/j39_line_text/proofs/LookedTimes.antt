-- The times of the variants at which was looked, where these aren't too many.
use Rattle.std.proofs.Common.{◌≡◌, ◌≢◌, None, sym}
use Rattle.std.proofs.lemmas.Option.{none-some}
use Rattle.j39_load.specs.BusTimes.{timing_of}
use Rattle.j39_variants.specs.declared.line.ProductLine.{ProductLine}
use Rattle.j39_line_bounds.specs.LineTimes.{AreTimesAmong}
use Rattle.j39_line_bounds.specs.declared.times.LineTimes.{LineTimes}
use Rattle.j39_line_check.specs.LineChecks.{many_of}
use Rattle.j39_line_check.specs.LookedTimes.{AreLookedTimes}
use Rattle.j39_line_check.specs.declared.answer.LookedAt.{LookedAt}
use Rattle.j39_line_check.specs.declared.answer.LookedAt.TheVariants.{Full, TooMany}
use Rattle.j39_line_text.specs.Hindrances.{variants_at}

pub among_looked : (line : ProductLine) (looked : LookedAt) (times : LineTimes) → many_of looked ≡ None → timing_of line.plan ≢ None
    → AreLookedTimes line looked times → AreTimesAmong line (variants_at looked) times
among_looked line (Full variants) times few known are = are known
among_looked line (TooMany many) times few known are = absurd (none-some many (sym few))
