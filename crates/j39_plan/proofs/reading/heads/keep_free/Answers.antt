use Rattle.j39_plan.proofs.HeadElements.{none_outside}
use Rattle.j39_plan.proofs.reading.heads.keep_free.Goals as goal

pub returns-in-None-clause-range : goal.returns-in-None-clause-range
returns-in-None-clause-range c = rw c.new.ensures none_outside
