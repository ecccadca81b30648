use Rattle.j39_run_laws.proofs.Transfers.SoundRuns.{delivered_while, reports_sound}
use Rattle.j39_run_laws.proofs.laws.reports_are_sound.Goals as goal

pub returns : goal.returns
returns c = record { sound = reports_sound; delivered = λ plan steps w quiet. delivered_while plan quiet steps w }
