use Rattle.j39_findings.proofs.FoundLaws.{clean_from_none, none_from_clean}
use Rattle.j39_findings.proofs.laws.findings.clean_where_none.Goals as goal

pub returns : goal.returns
returns c = λ plan. (clean_from_none plan, none_from_clean plan)
