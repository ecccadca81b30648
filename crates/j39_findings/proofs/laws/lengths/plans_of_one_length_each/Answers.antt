use Rattle.j39_findings.proofs.FoundByLengths.{found_by_lengths}
use Rattle.j39_findings.proofs.laws.lengths.plans_of_one_length_each.Goals as goal

pub returns : goal.returns
returns c = found_by_lengths
