use Rattle.std.proofs.Common.{◌≡◌, Option, None, sym, ap, subst, ◌∙◌}
use Rattle.j39_follow.specs.declared.pair.collected.Collected.{Collected}
use Rattle.j39_follow.specs.inside.Collecting.{IsCollectedOf, collected_between, collected_for}
use Rattle.j39_follow.proofs.Pairs.Collecting.{none_received}
use Rattle.j39_follow.proofs.pair.collections.Collections.received.Goals as goal

pub returns-in-None : goal.returns-in-None
returns-in-None c = λ h is.
    let none : collected_between c.args.self.now c.args.source c.args.destination ≡ None =
    ap (collected_for c.args.self.now) (sym c.pair_key.ensures) ∙ sym c.in-None.ensures.value in
    none_received h c.args.size c.args.pgn (subst (λ (o : Option Collected). IsCollectedOf o h) none is)
