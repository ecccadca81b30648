use Rattle.std.proofs.Common.{◌≡◌}
use Rattle.j39_follow.proofs.Addresses.Tables.{IsLeftBelow}
use Rattle.j39_follow.proofs.address.holders.Holders.leave.Given as goal

abbrev pub invariant-loop-address : goal.invariant-loop-address
invariant-loop-address l = IsLeftBelow l.fn.self.names l.self.names l.name l.address × (l.self.heard ≡ l.fn.self.heard) × (l.self.claimed ≡ l.fn.self.claimed)
