use Rattle.std.proofs.Common.{◌≡◌, false}
use Rattle.j39_audit.specs.Below.{any_below}
use Rattle.j39_audit.specs.Claiming.{is_at}
use Rattle.j39_audit.specs.inside.Recalling.{known_by}
use Rattle.j39_audit.proofs.senders.is_claimed.Given as goal

abbrev pub invariant-loop-unit : goal.invariant-loop-unit
invariant-loop-unit l = any_below (λ u. is_at ((known_by l.known).last u) l.address) l.unit ≡ false
