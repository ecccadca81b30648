use Rattle.std.proofs.Common.{◌≡◌, ◌++◌, take, All}
use Rattle.j39_load.specs.AskedLoads.{asked_in}
use Rattle.j39_load.specs.SoundLoads.{AreSoundIfAny}
use Rattle.j39_load.specs.inside.FrameParts.{frames_in}
use Rattle.j39_load.proofs.loads.Loads.add_part.Given as goal

abbrev pub invariant-loop-place : goal.invariant-loop-place
invariant-loop-place l = record {
  frames : l.all.items ≡ l.initial.all.items ++ take l.place (frames_in l.part (asked_in l.self));
  fit : All AreSoundIfAny l.all.items;
}
