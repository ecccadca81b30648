use Rattle.j39_claim.proofs.laws.lowest_free_is_least.Goals as goal
use Rattle.j39_claim.proofs.FreeAddresses.{lowest_is_least}

pub returns : goal.returns
returns c = lowest_is_least
