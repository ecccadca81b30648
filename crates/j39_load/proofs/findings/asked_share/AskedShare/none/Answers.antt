use Rattle.std.proofs.Common.{refl}
use Rattle.j39_load.specs.AskedFlows.{asked_parts, whole_parts}
use Rattle.j39_load.specs.inside.AskedShares.{first_digits}
use Rattle.j39_load.proofs.findings.asked_share.AskedShare.none.Goals as goal

pub returns-clause-share : goal.returns-clause-share
unfolding first_digits asked_parts whole_parts
returns-clause-share c = λ period. record { asked = refl; whole = refl }
