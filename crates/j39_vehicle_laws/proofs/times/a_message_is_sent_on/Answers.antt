use Rattle.j39_vehicle_laws.proofs.Arriving.{copies_carry}
use Rattle.j39_vehicle_laws.proofs.SentOn.{can_be_sent_on}
use Rattle.j39_vehicle_laws.proofs.times.a_message_is_sent_on.Goals as goal

pub returns : goal.returns
returns c = record { sent = can_be_sent_on; copies = copies_carry }
