use Rattle.std.proofs.Common.{◌<◌, ◌≤◌}
use Rattle.std.specs.Prelude.{IfSome}
use Rattle.j39_follow.specs.inside.Recounting.{IsLatestBelow}
use Rattle.j39_follow.proofs.address.holders.Holders.address.Given as goal

abbrev pub invariant-loop-address : goal.invariant-loop-address
invariant-loop-address l = IsLatestBelow l.plan l.self l.place l.unit l.address l.best × IfSome l.best (λ a. a < 254) × (l.address ≤ 254)
