use Rattle.j39_findings.proofs.Optional.{without_optional}
use Rattle.j39_findings.proofs.laws.optional.plans_without_optional_signals.Goals as goal

pub returns : goal.returns
returns c = without_optional
