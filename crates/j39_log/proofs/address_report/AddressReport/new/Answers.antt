use Rattle.j39_log.proofs.PairLists.{nothing_heard}
use Rattle.j39_log.proofs.address_report.AddressReport.new.Goals as goal

pub returns : goal.returns
returns c = nothing_heard c.new.result.rows.items c.new.ensures
