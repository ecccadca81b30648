use Rattle.j39_audit_laws.proofs.ExactClocks.{exact_clocks}
use Rattle.j39_audit_laws.proofs.Idle.{mark_with_errors}
use Rattle.j39_audit_laws.proofs.laws.idle_marks_are_right.Goals as goal

pub returns : goal.returns
returns c = record { marks = mark_with_errors; exact = exact_clocks }
