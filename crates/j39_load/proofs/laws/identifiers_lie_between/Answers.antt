use Rattle.j39_load.proofs.Ranks.{lie_between, request_between}
use Rattle.j39_load.proofs.laws.identifiers_lie_between.Goals as goal

pub returns : goal.returns
returns c = record {
  flows = λ plan timing stays held states by_plan flow known group. lie_between plan stays states held by_plan flow known timing group;
  requests = λ plan stays held states by_plan r request at. request_between plan stays states held by_plan r request at;
}
