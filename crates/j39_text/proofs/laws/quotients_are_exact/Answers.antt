use Rattle.j39_text.proofs.Quotients as quotients
use Rattle.j39_text.proofs.laws.quotients_are_exact.Goals as goal

pub returns : goal.returns
returns c = quotients.exact
