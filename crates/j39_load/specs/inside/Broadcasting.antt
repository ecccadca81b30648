-- What holds of broadcasts, so that their bits can be counted.
use Rattle.std.specs.Prelude.{List, All}
use Rattle.j39_load.specs.declared.frames.broadcast.Broadcast.{Broadcast}
use Rattle.j39_load.specs.SoundLoads.{IsSoundBroadcast}

abbrev pub AreSoundBroadcasts : List Broadcast → Type 0
AreSoundBroadcasts broadcasts = All IsSoundBroadcast broadcasts
