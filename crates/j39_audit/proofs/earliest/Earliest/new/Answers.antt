use Rattle.std.proofs.Common.{refl}
use Rattle.j39_audit.proofs.earliest.Earliest.new.Goals as goal

pub returns : goal.returns
returns c = λ key. rw c.new.ensures.empty refl
