use Rattle.j39_load.proofs.KeepingApart.{can_be_kept}
use Rattle.j39_load.proofs.KeepingFirst.{firsts_can_be_kept}
use Rattle.j39_load.proofs.laws.plans_can_be_kept.Goals as goal

pub returns : goal.returns
returns c = record {
  short = λ plan timing apart f flow pace group its paced of short seldom n. can_be_kept plan timing apart f flow pace group its paced of short n seldom;
  long = firsts_can_be_kept;
}
