use Rattle.std.proofs.Common.{sym, ap, ◌∙◌}
use Rattle.j39_follow.specs.LogLines.{time_with_point}
use Rattle.j39_follow.proofs.line.moment.time_of.Goals as goal

pub returns-in-Some : goal.returns-in-Some
returns-in-Some c = c.time_of_parts-in-Some.ensures ∙ ap (time_with_point c.args.digits.now) (sym c.in-Some.is ∙ c.point_of.ensures)

pub returns-in-None : goal.returns-in-None
returns-in-None c = c.time_of_whole.ensures ∙ ap (time_with_point c.args.digits.now) (sym c.in-None.is ∙ c.point_of.ensures)
