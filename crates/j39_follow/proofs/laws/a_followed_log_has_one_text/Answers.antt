use Rattle.j39_follow.proofs.OneText.{one_text}
use Rattle.j39_follow.proofs.laws.a_followed_log_has_one_text.Goals as goal

pub returns : goal.returns
returns c = one_text
