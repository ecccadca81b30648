use Rattle.std.proofs.Common.{rules}
use Rattle.j39_claim.proofs.FreeAddresses.{next_is_free}
use Rattle.j39_claim.proofs.upward.UpwardChoose.choose.Goals as goal

pub returns-clause-free : goal.returns-clause-free
returns-clause-free c = search (rules, next_is_free)
