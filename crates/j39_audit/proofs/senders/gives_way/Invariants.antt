use Rattle.std.proofs.Common.{◌≡◌, false}
use Rattle.j39_audit.specs.Below.{any_below}
use Rattle.j39_audit.specs.Claiming.{is_lost_to_another}
use Rattle.j39_audit.specs.inside.Recalling.{known_by, settings_of}
use Rattle.j39_audit.proofs.senders.gives_way.Given as goal

abbrev pub invariant-loop-address : goal.invariant-loop-address
invariant-loop-address l = any_below (is_lost_to_another (settings_of l.basis) (known_by l.known) l.unit l.name) l.address ≡ false
