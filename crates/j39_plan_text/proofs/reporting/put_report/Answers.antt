use Rattle.std.proofs.Common.{rules}
use Rattle.j39_stream.proofs.Answering.{all_put, none_put, part_put}
use Rattle.j39_plan_text.proofs.reporting.put_report.Goals as goal

pub returns-in_err-text : goal.returns-in_err-text
returns-in_err-text g c = none_put _ (search rules)

pub returns-in_err-put_all : goal.returns-in_err-put_all
returns-in_err-put_all g c = part_put c.in_ok-text.text c.in_ok-text.verdict (search rules) (search rules) _ (search rules) (search rules)

pub returns : goal.returns
returns g c = all_put c.in_ok-text.text c.in_ok-text.verdict (search rules) (search rules) (search rules)
