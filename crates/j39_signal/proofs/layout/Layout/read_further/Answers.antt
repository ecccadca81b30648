use Rattle.std.proofs.Common.{length, subst}
use Rattle.j39_signal.specs.Places.{IsInside, further}
use Rattle.j39_signal.proofs.layout.Layout.read_further.Goals as goal

pub read_further-requires-clause-inside : goal.read_further-requires-clause-inside
read_further-requires-clause-inside c =
    subst (λ s. IsInside (length c.args.payload.now) (further c.args.bytes s)) (c.signal.ensures.at c.signal.result.now)
    (c.requires.inside c.signal.result.now)
