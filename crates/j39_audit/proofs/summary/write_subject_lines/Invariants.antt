use Rattle.std.proofs.Common.{◌≤◌}
use Rattle.j39_audit.specs.AuditText.{line_reported, lines_reported, reported_mark}
use Rattle.j39_audit.specs.inside.Auditing.{tallied}
use Rattle.j39_audit.proofs.Writing.{AreLinesWritten}
use Rattle.j39_audit.proofs.summary.write_subject_lines.Given as goal

abbrev pub invariant-loop-group : goal.invariant-loop-group
invariant-loop-group l = record {
  written : AreLinesWritten l.initial.text l.text l.count (λ g. line_reported l.basis.plan.now (tallied l.log)
      (reported_mark (tallied l.log) l.word l.subject g))
      (λ g. lines_reported (tallied l.log (reported_mark (tallied l.log) l.word l.subject g))) l.group;
  few : l.count ≤ l.group;
}
