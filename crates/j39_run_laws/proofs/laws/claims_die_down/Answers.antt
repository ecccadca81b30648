use Rattle.j39_run_laws.proofs.Settling.SettlingRuns.{settles}
use Rattle.j39_run_laws.proofs.laws.claims_die_down.Goals as goal

pub returns : goal.returns
returns c = λ plan steps w distinct run. settles plan distinct steps w run
