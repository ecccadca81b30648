use Rattle.j39_variant_search.specs.inside.NearHoles.{IsNoneBy}
use Rattle.j39_variant_search.proofs.NoneBy.{none_by_whole}
use Rattle.j39_variant_search.proofs.outside.has_outside.Goals as goal

pub returns-in-Some : goal.returns-in-Some
returns-in-Some c =
    let none : IsNoneBy c.args.within.now c.args.within.now c.args.holes.now c.args.near.now c.in-Some._by.items = rw c.in-Some.is at c.in_ok-_by.ensures in
    none_by_whole c.args.within.now c.args.holes.now c.args.near.now c.in-Some._by.items none
