use Rattle.j39_vehicle_laws.proofs.ExampleRun.{a_message}
use Rattle.j39_vehicle_laws.proofs.a_message_is_forwarded.Goals as goal

pub returns : goal.returns
returns c = a_message
