use Rattle.j39_findings.proofs.CleanLaws.{parts_of}
use Rattle.j39_findings.proofs.laws.requests.requests_are_served.Goals as goal

pub returns : goal.returns
returns c = record {
  served = λ plan clean. (parts_of plan clean).requests;
  answers = λ plan clean. (parts_of plan clean).answers;
}
