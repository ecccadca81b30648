use Rattle.j39_claim.proofs.PoolBits.{passing_above}
use Rattle.j39_claim.proofs.free_pool.FreePool.above.Goals as goal

pub returns : goal.returns
returns c = λ p passing.
    passing_above p c.args.address c.args.self.low c.args.self.high c.bits_above.result c.bits_above-2.result passing
    c.bits_above.ensures c.bits_above-2.ensures
