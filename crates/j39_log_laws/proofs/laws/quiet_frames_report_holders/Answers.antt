use Rattle.j39_log_laws.proofs.HolderReports.{alone_frames_report, quiet_frames_report, sent_frames_report}
use Rattle.j39_log_laws.proofs.laws.quiet_frames_report_holders.Goals as goal

pub returns-clause-quiet : goal.returns-clause-quiet
returns-clause-quiet c = λ plan steps w distinct own run quiet. quiet_frames_report plan distinct own steps w run quiet

pub returns-clause-sending : goal.returns-clause-sending
returns-clause-sending c = λ plan steps w quiet distinct own run sends. sent_frames_report plan quiet distinct own steps w run sends

pub returns-clause-alone : goal.returns-clause-alone
returns-clause-alone c = λ plan steps w clean distinct own run u alone. alone_frames_report plan clean distinct own steps w run u alone
