use Rattle.j39_run_laws.proofs.Addresses.Strangers.{held_beside, stand_beside}
use Rattle.j39_run_laws.proofs.laws.strangers.who_stays_with_strangers.Goals as goal

pub returns : goal.returns
returns c = record {
  held = λ plan u inside stays. held_beside plan u inside stays;
  planned_or_pool = λ plan. stand_beside plan;
}
