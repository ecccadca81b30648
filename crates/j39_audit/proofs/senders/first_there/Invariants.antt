use Rattle.std.proofs.Common.{◌≡◌, None}
use Rattle.j39_audit.specs.Below.{first_below}
use Rattle.j39_audit.specs.Claiming.{may_be}
use Rattle.j39_audit.specs.inside.Recalling.{known_by, settings_of}
use Rattle.j39_audit.proofs.senders.first_there.Given as goal

abbrev pub invariant-loop-unit : goal.invariant-loop-unit
invariant-loop-unit l = first_below (λ u. may_be (settings_of l.basis) (known_by l.known) u l.address) l.unit ≡ None
