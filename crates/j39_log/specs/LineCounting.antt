-- How many lines of a log there are of each sort, and what is written of that.
use Rattle.std.specs.Prelude.{◌+◌, ◌≤◌, ℕ, List, ◌++◌, codes}
use Rattle.j39_id.specs.declared.line_error.LineError.{LineError}
use Rattle.j39_id.specs.declared.line_error.LineError.TheVariants.{Empty, ShortIdent}
use Rattle.j39_text.specs.Texts.{field}
use Rattle.j39_log.specs.declared.line_counts.LineCounts.{LineCounts}

abbrev pub no_lines : LineCounts
no_lines = record { frames = 0; skipped = 0; bad = 0; elsewhere = 0 }

abbrev pub one_more_bad : LineCounts → LineCounts
one_more_bad counts = record counts { bad = counts.bad + 1 }

-- a line that spells no frame counts as bad; one without a word isn't counted, and one of an 11-bit identifier is skipped
abbrev pub counted_over : LineError → LineCounts → LineCounts
counted_over Empty counts = counts
counted_over ShortIdent counts = record counts { skipped = counts.skipped + 1 }
counted_over _ counts = one_more_bad counts

-- of no sort there are more lines than this
pub record AreWithin (counts : LineCounts) (most : ℕ) : Type 0 where
  pub frames : counts.frames ≤ most
  pub skipped : counts.skipped ≤ most
  pub bad : counts.bad ≤ most
  pub elsewhere : counts.elsewhere ≤ most

-- of each sort there is at most one line more
pub record IsLineMore (old new : LineCounts) : Type 0 where
  pub frames : new.frames ≤ old.frames + 1
  pub skipped : new.skipped ≤ old.skipped + 1
  pub bad : new.bad ≤ old.bad + 1
  pub elsewhere : new.elsewhere ≤ old.elsewhere + 1

-- the lines that are read as frames, skipped and bad
unfoldable pub counts_text : LineCounts → List ℕ
counts_text counts =
    field (codes "frames ") counts.frames ++ (field (codes " skipped ") counts.skipped ++ field (codes " bad ") counts.bad)
