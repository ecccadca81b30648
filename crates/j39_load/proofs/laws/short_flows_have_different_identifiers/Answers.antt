use Rattle.j39_load.proofs.Different.{different, other_than_requests}
use Rattle.j39_load.proofs.laws.short_flows_have_different_identifiers.Goals as goal

pub returns : goal.returns
returns c = record {
  flows = λ plan clean named held apart f h flow other group second distinct is its same.
      different plan clean named held apart f h flow other group second distinct is its same;
  requests = λ plan clean named held apart f flow group is request asked.
      other_than_requests plan clean named held apart f flow group is request asked;
}
