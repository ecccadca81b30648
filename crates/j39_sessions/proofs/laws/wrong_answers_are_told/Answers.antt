use Rattle.j39_sessions.proofs.Answered.{early_receipts_told, wrong_grants_told}
use Rattle.j39_sessions.proofs.laws.wrong_answers_are_told.Goals as goal

pub returns-clause-grants : goal.returns-clause-grants
returns-clause-grants c = wrong_grants_told

pub returns-clause-receipts : goal.returns-clause-receipts
returns-clause-receipts c = early_receipts_told
