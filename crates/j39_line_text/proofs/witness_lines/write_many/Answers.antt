use Rattle.std.proofs.Common.{append_assoc}
use Rattle.j39_line_text.specs.WitnessLines.{many_text}
use Rattle.j39_line_text.proofs.witness_lines.write_many.Goals as goal

pub returns-in_ok-field-in-Some : goal.returns-in_ok-field-in-Some
unfolding many_text
returns-in_ok-field-in-Some c = rw c.in-Some.is (simp (c.in_ok-field-in-Some.ensures, append_assoc) at c.end_line.ensures)
