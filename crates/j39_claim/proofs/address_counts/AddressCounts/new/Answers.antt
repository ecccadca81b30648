use Rattle.std.proofs.Common.{replicate, sym, subst}
use Rattle.j39_claim.specs.inside.Noting.{HasCounted}
use Rattle.j39_claim.proofs.Counts.{none_counted}
use Rattle.j39_claim.proofs.address_counts.AddressCounts.new.Goals as goal

pub invariant_of-result : goal.invariant_of-result
invariant_of-result c = subst (λ noted. HasCounted noted (replicate 254 0)) (sym c.new.ensures) none_counted
