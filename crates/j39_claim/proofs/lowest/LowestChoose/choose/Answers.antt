use Rattle.std.proofs.Common.{rules}
use Rattle.j39_claim.proofs.FreeAddresses.{lowest_is_free}
use Rattle.j39_claim.proofs.lowest.LowestChoose.choose.Goals as goal

pub returns-clause-free : goal.returns-clause-free
returns-clause-free c = search (rules, lowest_is_free)
