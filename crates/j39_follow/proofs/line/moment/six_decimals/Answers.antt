use Rattle.j39_follow.proofs.Lines.TimeNumbers.{six_of}
use Rattle.j39_follow.proofs.line.moment.six_decimals.Goals as goal

pub returns : goal.returns
returns c = let six = six_of c.args.decimals.now in cc
