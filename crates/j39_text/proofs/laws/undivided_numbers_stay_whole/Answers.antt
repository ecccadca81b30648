use Rattle.j39_text.proofs.Quotients.{undivided}
use Rattle.j39_text.proofs.laws.undivided_numbers_stay_whole.Goals as goal

pub returns : goal.returns
returns c = undivided
