use Rattle.j39_run_laws.proofs.Addresses.Alone.{undisturbed}
use Rattle.j39_run_laws.proofs.laws.staying.alone_units_are_undisturbed.Goals as goal

pub returns : goal.returns
returns c = λ plan steps w clean. undisturbed plan clean steps w
