use Rattle.j39_schedule.proofs.WrittenSteps.{step_reads_back, steps_read_back}
use Rattle.j39_schedule.proofs.laws.written_steps_read_back.Goals as goal

pub returns-clause-step : goal.returns-clause-step
returns-clause-step c = step_reads_back

pub returns-clause-steps : goal.returns-clause-steps
returns-clause-steps c = steps_read_back
