use Rattle.j39_follow.proofs.Addresses.HolderLaws.{one_address, one_holder}
use Rattle.j39_follow.proofs.laws.holders_are_one_to_one.Goals as goal

pub returns-clause-holder : goal.returns-clause-holder
returns-clause-holder c = one_holder

pub returns-clause-address : goal.returns-clause-address
returns-clause-address c = one_address
