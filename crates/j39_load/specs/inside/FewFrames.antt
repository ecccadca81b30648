-- Messages of so few frames that their bits can be counted.
use Rattle.std.specs.Prelude.{◌≤◌}
use Rattle.j39_load.specs.declared.frames.messages.Messages.{Messages}
use Rattle.j39_load.specs.declared.frames.messages.Messages.TheVariants.{Short, ToAll, ToOne}

abbrev pub HaveFewFrames : Messages → Type 0
HaveFewFrames (Short frames) = frames.stream.frames ≤ 512
HaveFewFrames (ToOne frames) = frames.stream.frames ≤ 512
HaveFewFrames (ToAll broadcast) = Unit {0}
