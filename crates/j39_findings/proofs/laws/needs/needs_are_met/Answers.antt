use Rattle.j39_findings.proofs.CleanLaws.{parts_of}
use Rattle.j39_findings.proofs.laws.needs.needs_are_met.Goals as goal

pub returns : goal.returns
returns c = λ plan clean. (parts_of plan clean).needs
