use Rattle.j39_line_bounds.proofs.WorstTimes.{all_with}
use Rattle.j39_line_bounds.proofs.times.worse.Goals as goal

pub returns : goal.returns
returns c line each are =
    all_with line each c.args.one.now c.args.other.now _ c.in_ok-worse_flows.ensures c.in_ok-worse_needs.ensures c.max.ensures are
