use Rattle.j39_network.specs.PlannedUnits.{units_of}
use Rattle.j39_run_laws.proofs.Addresses.PlannedApart.{all_stay}
use Rattle.j39_run_laws.proofs.Addresses.Staying.{stay}
use Rattle.j39_run_laws.proofs.laws.staying.planned_addresses_stay.Goals as goal

pub returns : goal.returns
returns c = λ plan steps w planned run u. stay plan steps w run u (all_stay (units_of plan) planned u)
