use Rattle.j39_claim.proofs.laws.next_free_is_next.Goals as goal
use Rattle.j39_claim.proofs.FreeAddresses.{next_is_next}

pub returns : goal.returns
returns c = next_is_next
