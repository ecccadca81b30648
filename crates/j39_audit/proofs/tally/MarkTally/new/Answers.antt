use Rattle.std.proofs.Common.{refl}
use Rattle.j39_audit.proofs.tally.MarkTally.new.Goals as goal
use Rattle.j39_audit.specs.Counting.{reported_at}

pub returns : goal.returns
unfolding reported_at
returns c = λ key. rw c.new.ensures.empty refl
