use Rattle.j39_timing.proofs.Messages.{messages_whole}
use Rattle.j39_timing.proofs.laws.messages_in_turn_are_whole_in_time.Goals as goal

pub returns : goal.returns
returns c =
    record { whole = λ s planned of a p gap wait more announcements packets first rest. messages_whole s planned of a p gap wait more announcements packets first rest }
