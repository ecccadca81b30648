use Rattle.j39_line_witnesses.proofs.Meeting.{exact_boxes}
use Rattle.j39_line_witnesses.proofs.laws.boxes_are_exact.Goals as goal

pub returns : goal.returns
returns c = exact_boxes
