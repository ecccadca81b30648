use Rattle.j39_plan_text.proofs.WrittenRuns.{run_shows_conflict}
use Rattle.j39_plan_text.proofs.laws.written_runs_show_the_conflict.Goals as goal

pub returns : goal.returns
returns c = run_shows_conflict
