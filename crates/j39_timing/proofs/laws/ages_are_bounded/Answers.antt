use Rattle.j39_timing.proofs.Ages.{fresh}
use Rattle.j39_timing.proofs.laws.ages_are_bounded.Goals as goal

pub returns : goal.returns
returns c = record { fresh = fresh }
