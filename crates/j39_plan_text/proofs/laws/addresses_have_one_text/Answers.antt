use Rattle.j39_plan_text.proofs.OneText.{one_addresses_report}
use Rattle.j39_plan_text.proofs.laws.addresses_have_one_text.Goals as goal

pub returns : goal.returns
returns c = one_addresses_report
