use Rattle.j39_log_laws.proofs.ReportedFlows.{reported_as_begun}
use Rattle.j39_log_laws.proofs.laws.single_frames_are_reported_as_begun.Goals as goal

pub returns : goal.returns
returns c = λ plan steps w clean claims run. reported_as_begun plan clean claims steps w run
