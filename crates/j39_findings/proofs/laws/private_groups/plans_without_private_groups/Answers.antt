use Rattle.j39_findings.proofs.PrivateGroups.{found_as_before}
use Rattle.j39_findings.proofs.laws.private_groups.plans_without_private_groups.Goals as goal

pub returns : goal.returns
returns c = found_as_before
