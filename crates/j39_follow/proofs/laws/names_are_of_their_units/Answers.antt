use Rattle.j39_follow.proofs.Addresses.UnitNames.{names_are_of_their_units}
use Rattle.j39_follow.proofs.laws.names_are_of_their_units.Goals as goal

pub returns : goal.returns
returns c = names_are_of_their_units
