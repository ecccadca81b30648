use Rattle.j39_signal.proofs.Steps as steps
use Rattle.j39_signal.proofs.laws.others_count_up.Goals as goal

pub returns : goal.returns
returns c = steps.others_count_up
