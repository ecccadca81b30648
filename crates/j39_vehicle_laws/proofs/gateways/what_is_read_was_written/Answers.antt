use Rattle.j39_vehicle_laws.proofs.HandedOn.{from_first, from_origin, reads_as_before}
use Rattle.j39_vehicle_laws.proofs.gateways.what_is_read_was_written.Goals as goal

pub returns : goal.returns
returns c = record { begun = from_origin; at_last = from_first; read = reads_as_before }
