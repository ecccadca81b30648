use Rattle.j39_plan_text.proofs.OnePlans.{shows_one}
use Rattle.j39_plan_text.proofs.laws.plans_without_choices_are_shown_alone.Goals as goal

pub returns : goal.returns
returns c = shows_one
