use Rattle.j39_line_laws.proofs.BoxedParts.{lists_are_boxes}
use Rattle.j39_line_laws.proofs.boxes.lists_are_boxes.Goals as goal

pub returns : goal.returns
returns c = lists_are_boxes
