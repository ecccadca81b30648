use Rattle.std.proofs.Common.{sym, ap, ◌∙◌}
use Rattle.j39_follow.specs.FollowReports.{aim_at}
use Rattle.j39_follow.proofs.request.noting.aim_at.Goals as goal

pub returns-in-Some : goal.returns-in-Some
returns-in-Some c = sym (ap aim_at (sym c.unit.ensures ∙ c.in-Some.is))

pub returns-in-None : goal.returns-in-None
returns-in-None c = sym (ap aim_at (sym c.unit.ensures ∙ c.in-None.is))
