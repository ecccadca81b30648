use Rattle.j39_run_laws.proofs.Addresses.Strangers.{finds_beside, quiet_beside, sound_beside}
use Rattle.j39_run_laws.proofs.laws.strangers.strangers_keep_addresses.Goals as goal

pub returns : goal.returns
returns c = record {
  sound = λ plan clean. sound_beside plan clean;
  different = λ plan clean. quiet_beside plan clean;
  room = λ plan clean. finds_beside plan clean;
}
