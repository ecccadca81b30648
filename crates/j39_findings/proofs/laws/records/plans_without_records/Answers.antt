use Rattle.j39_findings.proofs.WithoutRecords.{without_records}
use Rattle.j39_findings.proofs.laws.records.plans_without_records.Goals as goal

pub returns : goal.returns
returns c = without_records
