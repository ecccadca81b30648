use Rattle.j39_plan.proofs.HeadElements.{none_outside}
use Rattle.j39_plan.proofs.reading.heads.known_keep_free.Goals as goal

pub returns-else-knows-clause-range : goal.returns-else-knows-clause-range
returns-else-knows-clause-range c = rw c.new.ensures none_outside
