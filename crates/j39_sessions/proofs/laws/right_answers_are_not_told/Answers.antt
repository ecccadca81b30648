use Rattle.j39_sessions.proofs.Right.{right_grant_isnt, right_receipt_isnt}
use Rattle.j39_sessions.proofs.laws.right_answers_are_not_told.Goals as goal

pub returns-clause-grants : goal.returns-clause-grants
returns-clause-grants c = right_grant_isnt

pub returns-clause-receipts : goal.returns-clause-receipts
returns-clause-receipts c = right_receipt_isnt
