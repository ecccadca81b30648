use Rattle.j39_load.proofs.LongRuns.Loads.{loads_in_the_long_run}
use Rattle.j39_load.proofs.laws.loads_hold_in_the_long_run.Goals as goal

pub returns : goal.returns
returns c = loads_in_the_long_run
