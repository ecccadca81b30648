use Rattle.std.proofs.Common.{◌≡◌, arith}
use Rattle.std.proofs.lemmas.Grind.{common_steps}
use Rattle.j39_id.specs.Lines.{Short}
use Rattle.j39_schedule.specs.Schedule.{line_order, order_of, words_of, words_order}
use Rattle.j39_schedule.specs.inside.OrderWords.{order_word}
use Rattle.j39_schedule.proofs.order_line.read_line.Goals as goal

pub returns-in-Some-spelled : goal.returns-in-Some-spelled
unfolding line_order words_order
returns-in-Some-spelled c =
    let is : line_order c.args.units.now (Short c.args.line.now)
    ≡ order_of c.args.units.now (order_word c.in-Some-spelled.word) (words_of c.in-Some.values.now) = grind (arith, common_steps) in
    rw is c.order_of.ensures
