use Rattle.j39_log_laws.proofs.HolderReports.{frames_report}
use Rattle.j39_log_laws.proofs.laws.frames_report_holders.Goals as goal

pub returns : goal.returns
returns c = λ plan steps w distinct own run. frames_report plan distinct own steps w run
