use Rattle.j39_timing.proofs.Newest.{newest_in_any_order, newest_in_order, one_in_any_order, one_in_order}
use Rattle.j39_timing.proofs.laws.newest_frames_are_fresh.Goals as goal

pub returns : goal.returns
returns c = record { legal = newest_in_order; any_order = newest_in_any_order; one = one_in_order; one_in_any_order = one_in_any_order }
