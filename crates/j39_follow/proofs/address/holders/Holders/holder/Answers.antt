use Rattle.std.proofs.Common.{ℕ, subst}
use Rattle.j39_follow.specs.Holders.{IsHolder}
use Rattle.j39_follow.proofs.Addresses.Tables.{found}
use Rattle.j39_follow.proofs.address.holders.Holders.holder.Goals as goal

pub returns : goal.returns
returns c = λ plan frames of.
    subst (λ (b : ℕ). IsHolder frames b c.holder_at.result) c.from.ensures
    (found plan c.args.self.now frames c.from.result c.holder_at.result of c.holder_at.ensures.some c.holder_at.ensures.only)
