use Rattle.j39_load.proofs.AgeLaws.{ages_bound}
use Rattle.j39_load.proofs.BoundedFlows.{bounded, bounded_beyond, short_bounded}
use Rattle.j39_load.proofs.WholeMessages.{deadlines_kept, in_time_where_checked, times_bound}
use Rattle.j39_load.proofs.laws.delays_are_bounds.Goals as goal

pub returns : goal.returns
returns c = record {
  bounds = bounded;
  beyond = bounded_beyond;
  ages = ages_bound;
  whole = times_bound;
  short = short_bounded;
  deadlines = deadlines_kept;
  checked = in_time_where_checked;
}
