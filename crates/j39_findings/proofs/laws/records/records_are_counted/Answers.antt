use Rattle.j39_network.proofs.RecordCounts.{records_counted}
use Rattle.j39_findings.proofs.laws.records.records_are_counted.Goals as goal

pub returns : goal.returns
returns c = records_counted
