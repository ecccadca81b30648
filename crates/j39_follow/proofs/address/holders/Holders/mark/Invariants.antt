use Rattle.std.proofs.Common.{◌≡◌, length}
use Rattle.j39_follow.proofs.Addresses.Tables.{IsMarkedBelow}
use Rattle.j39_follow.proofs.address.holders.Holders.mark.Given as goal

abbrev pub invariant-loop-place : goal.invariant-loop-place
invariant-loop-place l = IsMarkedBelow l.plan l.fn.self.heard l.self.heard l.name l.place × (l.self.names ≡ l.fn.self.names)
    × (l.self.claimed ≡ l.fn.self.claimed) × (length l.self.heard ≡ 128)
