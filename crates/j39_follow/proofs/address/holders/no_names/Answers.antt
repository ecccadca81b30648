use Rattle.j39_follow.proofs.Addresses.Tables.{vacant}
use Rattle.j39_follow.proofs.address.holders.no_names.Goals as goal

pub returns : goal.returns
returns c = λ a n. vacant 254 a n
