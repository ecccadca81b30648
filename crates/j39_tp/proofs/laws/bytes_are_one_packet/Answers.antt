use Rattle.j39_tp.proofs.PacketLaws.{one_management, one_data}
use Rattle.j39_tp.proofs.laws.bytes_are_one_packet.Goals as goal

pub returns-clause-management : goal.returns-clause-management
returns-clause-management c = one_management

pub returns-clause-data : goal.returns-clause-data
returns-clause-data c = one_data
