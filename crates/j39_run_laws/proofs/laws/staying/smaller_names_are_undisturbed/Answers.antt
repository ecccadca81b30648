use Rattle.j39_network.specs.PlannedUnits.{units_of}
use Rattle.j39_run_laws.proofs.Addresses.PlannedApart.{smaller_stay}
use Rattle.j39_run_laws.proofs.Addresses.Staying.{stay}
use Rattle.j39_run_laws.proofs.laws.staying.smaller_names_are_undisturbed.Goals as goal

pub returns : goal.returns
returns c = λ plan limit steps w planned run u within. stay plan steps w run u (smaller_stay (units_of plan) limit planned u within)
