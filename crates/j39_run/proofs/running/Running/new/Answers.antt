use Rattle.j39_run.proofs.Done.{nothing_done}
use Rattle.j39_run.proofs.running.Running.new.Goals as goal

pub returns-clause-begun : goal.returns-clause-begun
returns-clause-begun g c plan stands = rw c.new.ensures (nothing_done plan c.args.bus stands)
