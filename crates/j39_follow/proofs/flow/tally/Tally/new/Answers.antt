use Rattle.j39_follow.proofs.Flows.Tallied.{none_counted}
use Rattle.j39_follow.proofs.flow.tally.Tally.new.Goals as goal

pub returns : goal.returns
returns c = λ plan. record {
  flows = λ n less. none_counted 512 n;
  groups = λ g less. none_counted 256 g;
  others = λ g group at leads. none_counted 256 g;
}
