use Rattle.std.proofs.Common.{◌≡◌, Some, refl, length}
use Rattle.std.specs.List.{slice_get}
use Rattle.std.proofs.lemmas.Option.{slice_get_read}
use Rattle.j39_follow.proofs.Addresses.Likeliest.{behind, better, passed}
use Rattle.j39_follow.proofs.address.who.likelier.Goals as goal

pub returns-then-not-may_hold-clause-best : goal.returns-then-not-may_hold-clause-best
returns-then-not-may_hold-clause-best c = λ frames of best.
    let units = c.args.plan.now.units.items in
    let unit = c.index-unit.result.now in
    let at : slice_get units c.args.place ≡ Some unit =
    slice_get_read units (length units) c.args.place unit refl c.requires.here c.index-unit.ensures in
    passed c.args.plan.now c.args.place frames c.args.address unit c.args.best at
    (c.may_hold.ensures.not c.if-not-may_hold.true frames unit of at) best

pub returns-then-not-is_below-clause-best : goal.returns-then-not-is_below-clause-best
returns-then-not-is_below-clause-best c = λ frames of best.
    let units = c.args.plan.now.units.items in
    let unit = c.index-unit.result.now in
    let at : slice_get units c.args.place ≡ Some unit =
    slice_get_read units (length units) c.args.place unit refl c.requires.here c.index-unit.ensures in
    behind c.args.plan.now c.args.place frames c.args.address unit c.args.best at (c.is_below.ensures.not_below c.if-not-is_below.true) best

pub returns-clause-best : goal.returns-clause-best
returns-clause-best c = λ frames of best.
    let units = c.args.plan.now.units.items in
    let unit = c.index-unit.result.now in
    let at : slice_get units c.args.place ≡ Some unit =
    slice_get_read units (length units) c.args.place unit refl c.requires.here c.index-unit.ensures in
    better c.args.plan.now c.args.place frames c.args.address unit c.args.best at (c.may_hold.ensures.may c.if-not-may_hold.false frames unit of at)
    (c.is_below.ensures.below c.if-not-is_below.false) best
