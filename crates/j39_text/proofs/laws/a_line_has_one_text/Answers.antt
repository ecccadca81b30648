use Rattle.j39_text.proofs.OneFrameText.{one_text}
use Rattle.j39_text.proofs.laws.a_line_has_one_text.Goals as goal

pub returns : goal.returns
returns c = one_text
