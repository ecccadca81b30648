-- What contracts see of the messages that were received.
use Rattle.j39_bus.specs.declared.report.Report.{Report}
use Rattle.j39_world.specs.Transfers.{Reported}

abbrev pub reported_of : Report → Reported
reported_of r = record { receiver = r.receiver; sender = r.sender; flow = r.flow; bytes = r.bytes.items; alone = r.alone }
