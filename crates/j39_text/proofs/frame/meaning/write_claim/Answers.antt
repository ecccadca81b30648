use Rattle.std.proofs.Common.{append_assoc}
use Rattle.j39_text.specs.FrameText.{claim_lines}
use Rattle.j39_text.proofs.frame.meaning.write_claim.Goals as goal

pub returns : goal.returns
unfolding claim_lines
returns c = simp (c.in_ok-word.ensures, c.in_ok-field.ensures, c.carried_name.ensures, append_assoc) at c.write_name.ensures
