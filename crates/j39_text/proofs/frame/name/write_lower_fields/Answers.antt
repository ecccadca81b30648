use Rattle.std.proofs.Common.{append_assoc}
use Rattle.j39_text.specs.FrameText.{lower_fields}
use Rattle.j39_text.proofs.frame.name.write_lower_fields.Goals as goal

pub returns : goal.returns
unfolding lower_fields
returns c = simp (c.in_ok-field-2.ensures, c.in_ok-field.ensures, append_assoc) at c.field-3.ensures
