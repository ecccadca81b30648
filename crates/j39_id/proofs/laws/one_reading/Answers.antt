use Rattle.j39_id.proofs.LineLaws.{one_spelled, not_both, one_fault}
use Rattle.j39_id.proofs.laws.one_reading.Goals as goal

pub returns-clause-frame : goal.returns-clause-frame
returns-clause-frame c = one_spelled

pub returns-clause-apart : goal.returns-clause-apart
returns-clause-apart c = not_both

pub returns-clause-fault : goal.returns-clause-fault
returns-clause-fault c = one_fault
