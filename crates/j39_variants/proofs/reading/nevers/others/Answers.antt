use Rattle.std.proofs.Common.{sym}
use Rattle.j39_variants.proofs.NamedChoices.{others_first}
use Rattle.j39_variants.proofs.reading.nevers.others.Goals as goal

pub returns-in-Some : goal.returns-in-Some
returns-in-Some c = rw (others_first _ _ _ (sym c.in-Some.ensures.value)) c.alternatives_left.ensures
