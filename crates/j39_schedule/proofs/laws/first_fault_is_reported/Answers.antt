use Rattle.j39_schedule.proofs.FirstFault.{reports_first_fault}
use Rattle.j39_schedule.proofs.laws.first_fault_is_reported.Goals as goal

pub returns : goal.returns
returns c = reports_first_fault
