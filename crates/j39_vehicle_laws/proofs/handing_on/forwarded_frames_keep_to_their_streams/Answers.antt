use Rattle.j39_vehicle_laws.proofs.GatewayStreams.{keeps_to_stream}
use Rattle.j39_vehicle_laws.proofs.handing_on.forwarded_frames_keep_to_their_streams.Goals as goal

pub returns : goal.returns
returns c = record { keeps = keeps_to_stream }
