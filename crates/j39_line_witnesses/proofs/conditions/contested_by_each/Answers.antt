use Rattle.std.proofs.Common.{[], ◌<◌, length, ap, arith}
use Rattle.j39_load.specs.LineLists.{lines_of_each}
use Rattle.j39_line_findings.specs.Conditions.{contested_by}
use Rattle.j39_line_witnesses.specs.Presences.{condition_of, conditions_in}
use Rattle.j39_line_witnesses.proofs.Listing.{one_further, value_in}
use Rattle.j39_line_witnesses.proofs.conditions.contested_by_each.Goals as goal

pub loop-unit-init : goal.loop-unit-init
unfolding lines_of_each
loop-unit-init c = ap conditions_in c.new-found.ensures.items

pub loop-unit-preserved : goal.loop-unit-preserved
loop-unit-preserved c =
    let inside : c.loop-unit.unit < length c.args.line.now.plan.units.items = let e = c.len-unit-end.ensures in let b = c.loop-unit-test.true
    in omega (arith, e, b) in
    one_further condition_of (λ u _. contested_by c.args.line.now c.args.place c.args.flow.now u) c.loop-unit.unit c.args.line.now.plan.units.items
    (value_in c.loop-unit.unit c.args.line.now.plan.units.items inside) [] c.loop-unit.found.items c.add_contested_by.new.found.items
    inside c.loop-unit.invariant c.in_ok-add_contested_by.ensures
