use Rattle.std.proofs.Common.{arith}
use Rattle.std.proofs.lemmas.List.{take_rest}
use Rattle.j39_follow.proofs.Lines.Times.{begins_with_time}
use Rattle.j39_follow.proofs.line.words.leading_time.Goals as goal

pub returns : goal.returns
returns c =
    let size = rw take_rest at c.time_length-size.ensures in
    begins_with_time c.args.line.now c.time_length-size.result (omega (arith, c.if-line-size.false)) size.time
    (c.is_enclosed.ensures.0 c.if-not-is_enclosed.false) (c.is_ended.ensures.0 c.if-not-is_ended.false)
