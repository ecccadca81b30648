use Rattle.std.proofs.Common.{◌≤◌, ◌*◌}
use Rattle.j39_audit.specs.AuditText.{subject_count, subject_lines}
use Rattle.j39_audit.specs.inside.Auditing.{tallied}
use Rattle.j39_audit.specs.inside.Recalling.{settings_of}
use Rattle.j39_audit.proofs.Writing.{AreLinesWritten}
use Rattle.j39_audit.proofs.summary.write_word_lines.Given as goal

abbrev pub invariant-loop-subject : goal.invariant-loop-subject
invariant-loop-subject l = record {
  written : AreLinesWritten l.initial.text l.text l.count (subject_lines (settings_of l.basis) (tallied l.log) l.word)
      (subject_count (settings_of l.basis) (tallied l.log) l.word) l.subject;
  few : l.count ≤ 256 * l.subject;
}
