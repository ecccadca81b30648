use Rattle.std.proofs.Common.{rules}
use Rattle.j39_stream.proofs.Answering.{all_put, none_put, part_put}
use Rattle.j39_text.proofs.frame.frame_text.Goals as goal

pub returns-in_err-text-clause-puts : goal.returns-in_err-text-clause-puts
returns-in_err-text-clause-puts g c = none_put _ (search rules)

pub returns-in_err-put_all-clause-puts : goal.returns-in_err-put_all-clause-puts
returns-in_err-put_all-clause-puts g c = part_put c.in_ok-text.text c.in_ok-text.verdict (search rules) (search rules) _ (search rules) (search rules)

pub returns-clause-puts : goal.returns-clause-puts
returns-clause-puts g c = all_put c.in_ok-text.text c.in_ok-text.verdict (search rules) (search rules) (search rules)
