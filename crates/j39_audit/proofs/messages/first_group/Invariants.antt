use Rattle.std.proofs.Common.{◌≡◌, None}
use Rattle.j39_audit.specs.Below.{first_below}
use Rattle.j39_audit.specs.SentMessages.{is_group}
use Rattle.j39_audit.specs.inside.Recalling.{sent_as, settings_of}
use Rattle.j39_audit.proofs.messages.first_group.Given as goal

abbrev pub invariant-loop-place : goal.invariant-loop-place
invariant-loop-place l = first_below (is_group (settings_of l.basis) (sent_as l.message) l.test) l.place ≡ None
