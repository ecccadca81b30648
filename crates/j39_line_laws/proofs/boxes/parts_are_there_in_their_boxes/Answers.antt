use Rattle.j39_line_laws.proofs.BoxedParts.{there_in_boxes}
use Rattle.j39_line_laws.proofs.boxes.parts_are_there_in_their_boxes.Goals as goal

pub returns : goal.returns
returns c = there_in_boxes
