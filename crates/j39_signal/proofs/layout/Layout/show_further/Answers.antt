use Rattle.std.proofs.Common.{length, subst}
use Rattle.j39_signal.specs.Places.{IsInside, further}
use Rattle.j39_signal.proofs.layout.Layout.show_further.Goals as goal

pub show_further-requires-clause-inside : goal.show_further-requires-clause-inside
show_further-requires-clause-inside c =
    subst (λ s. IsInside (length c.args.payload.now) (further c.args.bytes s)) (c.signal.ensures.at c.signal.result.now)
    (c.requires.inside c.signal.result.now)
