use Rattle.j39_vehicle_laws.proofs.Bringing.{unaltered}
use Rattle.j39_vehicle_laws.proofs.nothing_is_altered.Goals as goal

pub returns : goal.returns
returns c v clean =
    unaltered v clean
    (λ plan steps w run. (c.reports_are_sound.ensures.sound plan steps w run, c.sent_frames_are_sound.ensures.sound plan steps w run))
