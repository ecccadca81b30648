use Rattle.j39_load.proofs.LosslessTransfers.{to_one, to_all, stated}
use Rattle.j39_load.proofs.laws.long_messages_take_the_frames_reported.Goals as goal

pub returns : goal.returns
returns c = record { to_one = to_one; to_all = to_all; stated = stated }
