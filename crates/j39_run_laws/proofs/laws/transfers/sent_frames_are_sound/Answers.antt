use Rattle.j39_run_laws.proofs.Transfers.SoundRuns.{delivered_beside, sent_frames_sound}
use Rattle.j39_run_laws.proofs.laws.transfers.sent_frames_are_sound.Goals as goal

pub returns : goal.returns
returns c = record { sound = sent_frames_sound; delivered = λ plan steps w quiet. delivered_beside plan quiet steps w }
