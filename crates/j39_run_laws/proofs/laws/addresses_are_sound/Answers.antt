use Rattle.j39_run_laws.proofs.Addresses.CleanUnits.{clean_units}
use Rattle.j39_run_laws.proofs.Addresses.SoundAddresses.{addresses_sound, quiet_apart}
use Rattle.j39_run_laws.proofs.laws.addresses_are_sound.Goals as goal

pub returns : goal.returns
returns c = record {
  sound = λ plan steps w clean. addresses_sound plan (clean_units plan clean) steps w;
  different = λ plan steps w clean run. quiet_apart plan w (addresses_sound plan (clean_units plan clean) steps w run);
}
