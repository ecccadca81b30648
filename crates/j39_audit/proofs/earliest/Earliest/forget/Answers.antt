use Rattle.std.proofs.Common.{refl}
use Rattle.j39_audit.proofs.earliest.Earliest.forget.Goals as goal

pub returns : goal.returns
returns c = λ key. rw c.clear.ensures.empty refl
