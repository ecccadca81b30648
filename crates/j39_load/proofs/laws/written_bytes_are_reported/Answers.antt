use Rattle.j39_load.proofs.ReportedBytes.{stated}
use Rattle.j39_load.proofs.laws.written_bytes_are_reported.Goals as goal

pub returns : goal.returns
returns c = stated
