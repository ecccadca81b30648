use Rattle.std.proofs.Common.{length, subst}
use Rattle.j39_signal.specs.Places.{IsThere}
use Rattle.j39_signal.proofs.There.{inside_there}
use Rattle.j39_signal.proofs.layout.Layout.read_there.Goals as goal

pub read-requires-clause-inside : goal.read-requires-clause-inside
read-requires-clause-inside c =
    inside_there c.signal.result.now c.args.self.now.length (length c.args.payload.now) c.requires.bytes c.signal.ensures.inside
    (subst (IsThere (length c.args.payload.now)) (c.signal.ensures.at c.signal.result.now) (c.requires.there c.signal.result.now))
