use Rattle.std.proofs.Common.{append_assoc}
use Rattle.j39_text.specs.FrameText.{cannot_claim_lines}
use Rattle.j39_text.proofs.frame.meaning.write_cannot_claim.Goals as goal

pub returns : goal.returns
unfolding cannot_claim_lines
returns c = simp (c.in_ok-word.ensures, c.carried_name.ensures, append_assoc) at c.write_name.ensures
