use Rattle.j39_plan_text.proofs.OneText.{one_show_report}
use Rattle.j39_plan_text.proofs.laws.show_has_one_text.Goals as goal

pub returns : goal.returns
returns c = one_show_report
