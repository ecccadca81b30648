use Rattle.j39_tp.proofs.PacketLaws.{management_reads, data_reads}
use Rattle.j39_tp.proofs.laws.sent_packets_read_back.Goals as goal

pub returns-clause-management : goal.returns-clause-management
returns-clause-management c = management_reads

pub returns-clause-data : goal.returns-clause-data
returns-clause-data c = data_reads
