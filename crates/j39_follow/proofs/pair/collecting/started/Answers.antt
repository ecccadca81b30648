use Rattle.std.proofs.Common.{sym}
use Rattle.j39_follow.proofs.Pairs.Collecting.{leads_to_start}
use Rattle.j39_follow.proofs.pair.collecting.started.Goals as goal

pub returns : goal.returns
returns c = λ old limit.
    leads_to_start old c.in_ok-collected.collected c.args.size limit c.args.pgn c.bytes.ensures.range c.in_ok-collected.ensures
