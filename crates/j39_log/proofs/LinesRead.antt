-- What the read command keeps of lines that spell no frame, and what it writes of the counts of lines.
use Rattle.std.proofs.Common.{◌≡◌, ◌+◌, ℕ, length, ap, ◌∙◌}
use Rattle.j39_id.specs.declared.line_error.LineError.{LineError}
use Rattle.j39_id.specs.declared.line_error.LineError.TheVariants.{BadData, BadIdent, Empty, NoHash, ShortIdent, TooLong}
use Rattle.j39_log.specs.LineCounting.{counted_over, one_more_bad}
use Rattle.j39_log.specs.ReadText.{Past, count_line, counts_line, passed_over, with_bad}
use Rattle.j39_log.specs.declared.line_counts.LineCounts.{LineCounts}
use Rattle.j39_log.specs.declared.listeners.Listeners.{Listeners}
use Rattle.j39_log.specs.inside.ReadSoFar.{Recalls}

one_bad : (listeners : Listeners) (counts : LineCounts) (past : Past) → Recalls listeners counts past
    → Recalls listeners (one_more_bad counts) (with_bad past)
one_bad listeners counts past recalls = record {
  heard_all = recalls.heard_all;
  ranges = recalls.ranges;
  frames_are = recalls.frames_are;
  skipped_are = recalls.skipped_are;
  bad_are = ap (λ (n : ℕ). n + 1) recalls.bad_are;
}

pub recalls_passed_over : (listeners : Listeners) (counts : LineCounts) (e : LineError) (past : Past) → Recalls listeners counts past
    → Recalls listeners (counted_over e counts) (passed_over e past)
recalls_passed_over listeners counts Empty past recalls = recalls
recalls_passed_over listeners counts ShortIdent past recalls = record {
  heard_all = recalls.heard_all;
  ranges = recalls.ranges;
  frames_are = recalls.frames_are;
  skipped_are = ap (λ (n : ℕ). n + 1) recalls.skipped_are;
  bad_are = recalls.bad_are;
}
recalls_passed_over listeners counts NoHash past recalls = one_bad listeners counts past recalls
recalls_passed_over listeners counts BadIdent past recalls = one_bad listeners counts past recalls
recalls_passed_over listeners counts TooLong past recalls = one_bad listeners counts past recalls
recalls_passed_over listeners counts BadData past recalls = one_bad listeners counts past recalls

pub same_counts : (listeners : Listeners) (counts : LineCounts) (past : Past) → Recalls listeners counts past
    → counts_line counts.frames counts.skipped counts.bad ≡ count_line past
same_counts listeners counts past recalls =
    ap (λ (n : ℕ). counts_line n counts.skipped counts.bad) recalls.frames_are
    ∙ ap (λ (n : ℕ). counts_line (length past.seen) n counts.bad) recalls.skipped_are
    ∙ ap (λ (n : ℕ). counts_line (length past.seen) past.skipped n) recalls.bad_are
