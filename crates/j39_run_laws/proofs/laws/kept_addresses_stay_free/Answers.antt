use Rattle.j39_run_laws.proofs.Addresses.CleanUnits.{clean_units}
use Rattle.j39_run_laws.proofs.Addresses.SoundAddresses.{kept_free}
use Rattle.j39_run_laws.proofs.laws.kept_addresses_stay_free.Goals as goal

pub returns : goal.returns
returns c = λ plan steps w clean. kept_free plan (clean_units plan clean) steps w
