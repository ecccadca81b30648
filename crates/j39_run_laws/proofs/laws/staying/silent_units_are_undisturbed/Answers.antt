use Rattle.j39_run_laws.proofs.Addresses.CleanUnits.{clean_units}
use Rattle.j39_run_laws.proofs.Addresses.SoundAddresses.{silent_held}
use Rattle.j39_run_laws.proofs.laws.staying.silent_units_are_undisturbed.Goals as goal

pub returns : goal.returns
returns c = λ plan steps w clean run. silent_held plan (clean_units plan clean) steps w run
