use Rattle.j39_vehicle_laws.proofs.Copied.{copies_can_be}
use Rattle.j39_vehicle_laws.proofs.copies_can_be_sent.Goals as goal

pub returns : goal.returns
returns c = copies_can_be
