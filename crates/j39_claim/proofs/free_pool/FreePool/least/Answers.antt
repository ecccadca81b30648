use Rattle.std.proofs.Common.{sym}
use Rattle.j39_claim.proofs.PoolBits.{least_low}
use Rattle.j39_claim.proofs.free_pool.FreePool.least.Goals as goal

pub returns-then-self-ne0 : goal.returns-then-self-ne0
returns-then-self-ne0 c = λ p passing. sym (least_low p c.args.self.low c.args.self.high passing c.if-self-ne0.true)
