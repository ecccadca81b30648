use Rattle.j39_load.proofs.Milliseconds.{agreed_inside, agreed_least, agreed_most, agreed_stated, reported_within, within_stated}
use Rattle.j39_load.proofs.laws.clocks_are_counted.Goals as goal

pub returns : goal.returns
returns c = record {
  stated = λ timing bits ms. (within_stated timing bits ms, reported_within timing bits ms);
  least = agreed_least;
  most = agreed_most;
  inside = agreed_inside;
  exact = agreed_stated;
}
