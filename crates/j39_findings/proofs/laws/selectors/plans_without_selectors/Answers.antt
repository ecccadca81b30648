use Rattle.j39_findings.proofs.Selectors.{without_selectors}
use Rattle.j39_findings.proofs.laws.selectors.plans_without_selectors.Goals as goal

pub returns : goal.returns
returns c = without_selectors
