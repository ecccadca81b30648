use Rattle.j39_follow.specs.inside.Recounting.{ArePartyNames}
use Rattle.j39_follow.proofs.address.naming.names_of.Given as goal

abbrev pub invariant-loop-address : goal.invariant-loop-address
invariant-loop-address l = ArePartyNames l.plan l.parties l.address l.names.items
