use Rattle.j39_sessions.proofs.Right.{right_announcement_isnt, wrong_announcement_told}
use Rattle.j39_sessions.proofs.laws.wrong_announcements_are_told.Goals as goal

pub returns-clause-told : goal.returns-clause-told
returns-clause-told c = wrong_announcement_told

pub returns-clause-others : goal.returns-clause-others
returns-clause-others c = right_announcement_isnt
