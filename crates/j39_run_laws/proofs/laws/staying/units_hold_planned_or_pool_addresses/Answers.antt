use Rattle.j39_run_laws.proofs.Addresses.Staying.{stand}
use Rattle.j39_run_laws.proofs.laws.staying.units_hold_planned_or_pool_addresses.Goals as goal

pub returns : goal.returns
returns c = λ plan steps w run u a. stand plan steps w run u a
