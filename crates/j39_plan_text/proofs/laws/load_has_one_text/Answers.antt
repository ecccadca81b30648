use Rattle.j39_plan_text.proofs.OneText.{one_load_report}
use Rattle.j39_plan_text.proofs.laws.load_has_one_text.Goals as goal

pub returns : goal.returns
returns c = one_load_report
