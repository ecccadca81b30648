use Rattle.j39_run.proofs.Continuations.{same_for_continuations, same_once_reported}
use Rattle.j39_run.proofs.laws.refused_lines_end_the_text.Goals as goal

pub returns-clause-ended : goal.returns-clause-ended
returns-clause-ended c = same_for_continuations

pub returns-clause-yielded : goal.returns-clause-yielded
returns-clause-yielded c = same_once_reported
