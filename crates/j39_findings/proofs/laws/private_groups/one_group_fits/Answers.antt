use Rattle.j39_findings.proofs.PrivateGroups.{one_fits}
use Rattle.j39_findings.proofs.laws.private_groups.one_group_fits.Goals as goal

pub returns : goal.returns
returns c = one_fits
