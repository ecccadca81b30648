use Rattle.std.proofs.Common.{◌≤◌, ◌*◌}
use Rattle.j39_audit.specs.AuditText.{accusing_at, word_count, word_lines}
use Rattle.j39_audit.specs.inside.Auditing.{tallied}
use Rattle.j39_audit.specs.inside.Recalling.{settings_of}
use Rattle.j39_audit.proofs.Writing.{AreLinesWritten}
use Rattle.j39_audit.proofs.summary.write_accusations.Given as goal

abbrev pub invariant-loop-place : goal.invariant-loop-place
invariant-loop-place l = record {
  written : AreLinesWritten l.initial.text l.text l.count (λ n. word_lines (settings_of l.basis) (tallied l.log) (accusing_at n))
      (λ n. word_count (settings_of l.basis) (tallied l.log) (accusing_at n)) l.place;
  few : l.count ≤ 131072 * l.place;
  within : l.place ≤ 19;
}
