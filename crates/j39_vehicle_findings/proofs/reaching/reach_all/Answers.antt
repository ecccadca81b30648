use Rattle.j39_vehicle_findings.proofs.Spreading.{next_spread, row_inside}
use Rattle.j39_vehicle_findings.proofs.reaching.reach_all.Goals as goal

pub reach-requires : goal.reach-requires
reach-requires c =
    rw c.row_of.ensures (row_inside c.args.rows.now c.in-Some.place _ c.requires.inside c.spread.invariant.count)

pub spread-preserved : goal.spread-preserved
spread-preserved c =
    next_spread c.args.rows.now c.args.start c.in-Some.place c.spread.reached.items c.reach.new.reached.items c.spread.waiting.items
    c.pop.new.self.items c.reach.new.waiting.items c.spread.invariant c.in-Some.ensures.items (rw c.row_of.ensures at c.in_ok-reach.ensures)
