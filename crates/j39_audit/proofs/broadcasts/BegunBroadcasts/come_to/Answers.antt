use Rattle.j39_audit.specs.BegunBroadcasts.{broadcasts_before}
use Rattle.j39_audit.proofs.broadcasts.BegunBroadcasts.come_to.Goals as goal

pub returns : goal.returns
unfolding broadcasts_before
returns c = λ b recalls. c.end.ensures _ (c.begin.ensures b recalls)
