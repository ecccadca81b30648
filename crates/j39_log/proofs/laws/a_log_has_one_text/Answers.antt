use Rattle.j39_log.proofs.OneText.{one_text}
use Rattle.j39_log.proofs.laws.a_log_has_one_text.Goals as goal

pub returns : goal.returns
returns c = one_text
