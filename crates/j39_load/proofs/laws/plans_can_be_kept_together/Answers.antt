use Rattle.j39_load.proofs.KeepingApart.{can_be_kept_together}
use Rattle.j39_load.proofs.laws.plans_can_be_kept_together.Goals as goal

pub returns : goal.returns
returns c = λ plan timing apart f flow pace group its paced of short seldom number rate stated n half_sent.
    can_be_kept_together plan timing apart f flow pace group its paced of short n half_sent seldom number rate stated
