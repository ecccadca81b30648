use Rattle.j39_plan_text.proofs.WrittenRuns.{run_reads_back}
use Rattle.j39_plan_text.proofs.laws.written_runs_read_back.Goals as goal

pub returns : goal.returns
returns c = run_reads_back
